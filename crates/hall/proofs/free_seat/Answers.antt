-- `hall::free_seat` meets its contract. Assumes nothing.
use Prim.Native.Nat.{ℕ}
use mathlib.Core.Bool.{not, true, false}
use mathlib.Core.Path.{◌≡◌}
use borrow.Author.Rules.{rules}
use borrow.Author.Tests.{tests}
use Rattle.std.proofs.lemmas.Iterator.{first_from_Range}
use Rattle.hall.specs.Seats.{is_present, free_seat}
use Rattle.hall.proofs.Laws.{lowest_is}
use Rattle.hall.proofs.free_seat.Goals as goal

pub returns : goal.returns
unfolding free_seat
returns c =
    let test = λ (s : ℕ). not (is_present c.args.hall s) in
    lowest_is test 16 0 _
    (first_from_Range _ _ _ _ (λ s. test s ≡ true) (λ s. test s ≡ false) c.find.ensures.ran (λ x q k. search (rules, tests))
    (λ x q k. search (rules, tests)))
