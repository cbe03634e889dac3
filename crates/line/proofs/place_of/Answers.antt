-- `line::place_of` meets its contract. Assumes nothing.
use mathlib.Core.Bool.{true, false}
use mathlib.Core.Path.{◌≡◌, ap, sym, ◌∙◌}
use borrow.Author.Rules.{rules}
use borrow.Author.Tests.{tests}
use Rattle.std.proofs.lemmas.Iterator.{IsFirst-from_position, YieldsList-from_slice}
use Rattle.line.specs.declared.Entry.{Entry}
use Rattle.line.specs.Line.{is_other, before}
use Rattle.line.proofs.Laws.{leading_is}
use Rattle.line.proofs.place_of.Goals as goal

pub returns : goal.returns
unfolding before
returns c =
    let test = is_other c.args.seat in
    let es = c.waiting-those.result.now in
    let first = IsFirst-from_position _ _ c.position.result (λ (e : Entry). test e ≡ false) (λ (e : Entry). test e ≡ true)
    c.position.ensures.ran (YieldsList-from_slice es c.iter.ensures.rest)
    (λ x q k. search (rules, tests)) (λ x q k. search (rules, tests)) in
    c.unwrap_or.ensures ∙ sym (leading_is test es c.position.result first) ∙ ap (before c.args.seat) c.waiting-those.ensures.0
