-- Each check by its law, where those before it passed.
use mathlib.Core.Path.{sym, ap, ◌∙◌}
use Rattle.std.proofs.lemmas.Result.{err_from_is_err_and}
use Rattle.message.specs.Answers.{in_numbers}
use Rattle.reading.specs.Reading.{reading}
use Rattle.reading.proofs.Judges.{judges_fault, judges_missing, judges_whole}
use Rattle.reading.proofs.judge.Goals as goal

pub returns-in_default : goal.returns-in_default
unfolding reading
returns-in_default c = rw c.in_default.is (rw (sym c.opened-opened.ensures ∙ ap in_numbers c.in_default.is), c.forget.ensures)

pub returns-in_err-all_starts : goal.returns-in_err-all_starts
returns-in_err-all_starts c =
    let p = err_from_is_err_and c.from_residual.result c.from_residual.ensures.1 in
    rw (p.1, p.2)
    (judges_fault c.in-Ok.kind c.args.s.now c.all_starts.new.starts (sym c.opened-opened.ensures ∙ ap in_numbers c.in-Ok.is) _
    c.in_err-all_starts.ensures)

pub returns-then-not-has_all : goal.returns-then-not-has_all
returns-then-not-has_all c =
    let s = c.args.s.now in (
      judges_missing c.in-Ok.kind s c.all_starts.new.starts (sym c.opened-opened.ensures ∙ ap in_numbers c.in-Ok.is)
          c.in_ok-all_starts.ensures
          (sym (c.has_all.ensures s) ∙ c.if-not-has_all.true),
      c.forget-then-not-has_all.ensures,
    )

pub returns : goal.returns
returns c =
    let s = c.args.s.now in
    judges_whole c.in-Ok.kind s c.all_starts.new.starts (sym c.opened-opened.ensures ∙ ap in_numbers c.in-Ok.is)
    c.in_ok-all_starts.ensures
    (sym (c.has_all.ensures s) ∙ c.if-not-has_all.false)
