-- What a look answers. Assumes nothing.
use Rattle.words.specs.Choice.{when◌then◌else◌, by_test}
use Prim.Native.Nat.{ℕ}
use mathlib.Core.Path.{◌≡◌}
use mathlib.Core.Bool.{true, false}
use mathlib.Core.List.{List}
use lib.IntN.{ℤ, pos, neg_ℤ}
use Rattle.message.specs.Answers.{Answer, refused}
use Rattle.desk_test.specs.Lent.{formed}
use Rattle.signed.specs.Signed.{signed, answers}
use Rattle.signed.proofs.Signed.{pair_same}
use Rattle.desk_looking.specs.Looking.{looks}

-- what a look answers
pub looks_so : (d : List ℕ) (a : Answer ℕ) → formed d ≡ true → looks d a ≡ signed a
unfolding looks when◌then◌else◌
looks_so d a q = rw q

pub looks-not : (d : List ℕ) (a : Answer ℕ) → formed d ≡ false → looks d a ≡ neg_ℤ (pos 20)
unfolding looks when◌then◌else◌
looks-not d a q = rw q

-- what is answered on a desk and without one
pub looked : (d : List ℕ) (n : ℤ) (a : Answer ℕ) → (formed d ≡ true → n ≡ signed a) → (formed d ≡ false → n ≡ signed (refused 20)) →
    n ≡ looks d a
unfolding looks when◌then◌else◌
looked d n a f g = by_test (formed d) (λ q. rw q (f q)) (λ q. rw q (g q))

-- and what is written out of one
pub told_from : (d room : List ℕ) (n : ℤ) (room' : List ℕ) (z : ℤ × List ℕ) → (formed d ≡ true → (n, room') ≡ z) →
    (formed d ≡ false → (n ≡ signed (refused 20)) × (room' ≡ room)) → (n, room') ≡ (when formed d then z else answers (refused 20) room)
unfolding when◌then◌else◌
told_from d room n room' z f g = by_test (formed d) (λ q. rw q (f q)) (λ q. let e = g q in rw q (pair_same e.0 e.1))
