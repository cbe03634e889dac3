-- What is shown, by whether the room is long enough. Assumes nothing.
use Prim.Native.Nat.{ℕ, ◌≤◌, ◌<◌}
use mathlib.Core.List.{List}
use mathlib.Core.Path.{◌≡◌}
use native.Mathlib.Omega.{arith}
use lib.Dec.{leb}
use lib.IntN.{ℤ}
use lib.ListN.{length}
use borrow.Author.Tests.{leb-true, leb-false}
use Rattle.words.specs.Choice.{when◌then◌else◌, by_test}
use Rattle.octets.specs.Octets.{over}
use Rattle.message.specs.Answers.{refused, result}
use Rattle.signed.specs.Signed.{signed}
use Rattle.signed.proofs.Signed.{pair_same}
use Rattle.seat_looking.specs.Showing.{shown}

-- `n` octets that are written where they have room, and nothing where they have not
pub shown_so : (octets room : List ℕ) (n : ℕ) (z : ℤ) (room' : List ℕ) → n ≡ length octets
    → (n ≤ length room → (z ≡ signed (result n)) × (room' ≡ over room 0 octets))
    → (length room < n → (z ≡ signed (refused 13)) × (room' ≡ room)) → (z, room') ≡ shown octets room
unfolding shown when◌then◌else◌
shown_so octets room n z room' e f g =
    by_test (leb (length octets) (length room))
    (λ q. let l = leb-true _ _ q in let w = f (omega (arith, e, l)) in rw (q, ← e) (pair_same w.0 w.1))
    (λ q. let l = leb-false _ _ q in let w = g (omega (arith, e, l)) in rw q (pair_same w.0 w.1))
