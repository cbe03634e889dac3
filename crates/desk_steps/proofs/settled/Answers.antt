-- `desk_steps::settled` meets its contract. Assumes nothing.
use mathlib.Core.Path.{sym, ◌∙◌}
use borrow.Author.Tests.{ne_eqb, eq-eqb, lt-leb, le-leb}
use Rattle.signed.proofs.Signed.{passed, numbered}
use Rattle.desk_steps.proofs.Steps.{same_leaves, refused_so, no_room_so, done_so}
use Rattle.desk_steps.proofs.settled.Goals as goal

pub returns-then-n-ne0-clause-leaves : goal.returns-then-n-ne0-clause-leaves
returns-then-n-ne0-clause-leaves g c =
    same_leaves (passed c.refusal.type_inv ∙ c.refusal.ensures)
    ∙ rw (← c.number_of-n.ensures)
    (sym (refused_so _ c.requires.in_form _ _ _ _ (ne_eqb _ _ c.if-n-ne0.true)))

pub returns-then-report-lt-REPORT_SIZE-clause-leaves : goal.returns-then-report-lt-REPORT_SIZE-clause-leaves
returns-then-report-lt-REPORT_SIZE-clause-leaves g c =
    same_leaves (passed c.refused.type_inv ∙ numbered c.refused.ensures)
    ∙ rw (← c.number_of-n.ensures)
    (sym (no_room_so _ c.requires.in_form _ _ _ _ (eq-eqb _ _ c.if-n-ne0.false) (lt-leb _ _ c.if-report-lt-REPORT_SIZE.true)))

pub returns-clause-leaves : goal.returns-clause-leaves
returns-clause-leaves g c =
    rw (c.put_report.ensures, ← c.number_of-n.ensures)
    (sym (done_so _ c.requires.in_form _ _ _ _ (eq-eqb _ _ c.if-n-ne0.false) (le-leb _ _ c.if-report-lt-REPORT_SIZE.false)))
