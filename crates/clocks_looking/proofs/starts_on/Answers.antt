-- `clocks_looking::starts_on` keeps its promise, `result ≡ starts_on before after fired report.now`. Assumes nothing.
use lib.IntN.{pos}
use mathlib.Core.Path.{ap, ◌∙◌}
use borrow.Author.Tests.{eq-eqb, ne_eqb, le-leb, lt-leb}
use Rattle.words.specs.Choice.{when◌then◌else◌}
use Rattle.signed.proofs.Signed.{passed, numbered}
use Rattle.clocks_looking.specs.ClockSets.{timer_set, how_given, starts_on}
use Rattle.clocks_looking.proofs.starts_on.Goals as goal
use Rattle.clocks_looking.proofs.starts_on.Goals.{else-report-eq-REPORT_SIZE-via-then-report-eq-REPORT_SIZE+else-report-le2}
use Rattle.clocks_looking.proofs.starts_on.Goals.{else-report-eq-REPORT_SIZE-via-else-report-eq-REPORT_SIZE}

pub returns-then-report-le2 : goal.returns-then-report-le2
unfolding starts_on when◌then◌else◌
returns-then-report-le2 c =
    passed c.found.type_inv ∙ c.found.ensures
    ∙ rw (eq-eqb _ _ c.if-report-eq-REPORT_SIZE.true, le-leb (how_given c.args.report.now) 2 c.if-report-le2.true)
    (ap pos (c.timer_set.ensures.value ∙ ap timer_set (c.starts_anew-set.ensures
    ∙ rw (c.running_in.ensures, c.running_in-then-report-le2.ensures, c.timer_named.ensures))))

pub returns-else-report-eq-REPORT_SIZE : goal.returns-else-report-eq-REPORT_SIZE
unfolding starts_on when◌then◌else◌
returns-else-report-eq-REPORT_SIZE c =
    passed c.refused.type_inv ∙ numbered c.refused.ensures
    ∙ elim c.else-report-eq-REPORT_SIZE.branch [
      | else-report-eq-REPORT_SIZE-via-then-report-eq-REPORT_SIZE+else-report-le2 w ↦
          rw (eq-eqb _ _ w.if-report-eq-REPORT_SIZE.true, lt-leb (how_given c.args.report.now) 2 w.if-report-le2.false)
      | else-report-eq-REPORT_SIZE-via-else-report-eq-REPORT_SIZE w ↦ rw (ne_eqb _ _ w.if-report-eq-REPORT_SIZE.false)
    ]
