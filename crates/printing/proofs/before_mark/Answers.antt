-- The first that passes, or the end.
use Rattle.std.proofs.Common.{rules, tests, ◌≡◌, ℕ, nat_eq, position}
use mathlib.Core.Path.{◌∙◌}
use Rattle.std.proofs.lemmas.Iterator.{YieldsList-from_slice}
use Rattle.std.proofs.lemmas.Iterator.Search.{position_from_yields_List}
use Rattle.printing.proofs.Printed.{first_or_end}
use Rattle.printing.proofs.before_mark.Goals as goal

pub returns-clause-count : goal.returns-clause-count
returns-clause-count c =
    let s = c.args.s.now in
    let p = λ (b : ℕ). nat_eq b c.args.mark in
    let ran = c.position.ensures.ran in
    let e : c.position.result ≡ position p s =
    position_from_yields_List p _ _ c.position.result ran (YieldsList-from_slice s cc) (λ x b q k. search (rules, tests)) in
    c.unwrap_or.ensures ∙ rw e (first_or_end p s)
