-- Octet for octet is the same list, and a search that finds a seat is at it. Assumes nothing.
use Prim.Native.Nat.{ℕ}
use mathlib.Core.Path.{◌≡◌, refl, ap}
use mathlib.Core.Bool.{true}
use mathlib.Core.List.{List, [], ◌∷◌}
use lib.Dec.{eqb}
use borrow.Author.Tests.{eqb-true}
use Rattle.words.specs.Choice.{when◌then◌else◌, by_test}
use Rattle.words.proofs.Tests.{clash}
use Rattle.std.specs.Prelude.{Option, Some, None}
use Rattle.hall.specs.Seats.{finds}
use Rattle.identities.specs.Identity.{same}

-- octet for octet is the same list
pub same_is : (a b : List ℕ) → same a b ≡ true → a ≡ b
unfolding same when◌then◌else◌
same_is [] [] q = refl
same_is [] (y ∷ b) q = clash q refl
same_is (x ∷ a) [] q = clash q refl
same_is (x ∷ a) (y ∷ b) q =
    by_test (eqb x y)
    (λ t. let m : x ≡ y = eqb-true x y t in let r : a ≡ b = same_is a b (rw t at q) in rw (m, r))
    (λ t. clash (rw t at q) refl)

-- a search that finds a seat
pub finds-at : (f : Option ℕ) (s : ℕ) → finds f s ≡ true → f ≡ Some s
finds-at (Some t) s q = ap Some (eqb-true t s q)
finds-at None s q = clash q refl
