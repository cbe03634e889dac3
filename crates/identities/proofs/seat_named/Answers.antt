-- `identities::seat_named` meets its contract. Assumes nothing.
use Prim.Native.Nat.{ℕ}
use mathlib.Core.Bool.{true, false}
use mathlib.Core.Path.{◌≡◌}
use borrow.Author.Rules.{rules}
use borrow.Author.Tests.{tests}
use Rattle.std.proofs.lemmas.Iterator.{first_from_Range}
use Rattle.hall.proofs.Laws.{lowest_is}
use Rattle.identities.specs.Identity.{has_name, seat_named}
use Rattle.identities.proofs.seat_named.Goals as goal

pub returns : goal.returns
unfolding seat_named
returns c =
    let test = λ (s : ℕ). has_name c.args.hall c.args.names c.args.identity.now s in
    lowest_is test 16 0 _
    (first_from_Range _ _ _ _ (λ s. test s ≡ true) (λ s. test s ≡ false) c.find.ensures.ran (λ x q k. search (rules, tests))
    (λ x q k. search (rules, tests)))
