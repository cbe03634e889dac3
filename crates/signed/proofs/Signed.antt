-- A small number at a signed width, and minus it; a refusal's number is never taken for done. Assumes nothing.
use Prim.Native.Nat.{ℕ, zero, suc, ◌<◌}
use mathlib.Core.Bool.{false}
use mathlib.Core.Path.{◌≡◌, refl, ap, ◌∙◌}
use native.Mathlib.Omega.{arith}
use lib.Dec.{eqb}
use borrow.Author.Tests.{eqb-false}
use lib.IntN.{ℤ, pos, neg_ℤ, ◌-ℤ◌, +ℤ_idl}
use lib.Signed.{mag}
use mir.Syntax.{w32}
use mir.Val.{SFits, to_z, of_z}
use mir.Facts.{to_z_pos, to_z-of_z}
use Rattle.message.specs.Answers.{refused}
use Rattle.signed.specs.Signed.{told_as, signed, Refuses}

pub as_it_is : (n : ℕ) → n < 2147483648 → to_z w32 n ≡ pos n
as_it_is n h = to_z_pos w32 h

module _ (n : ℕ) (h : n < 2147483648) where
  minus : to_z w32 0 -ℤ to_z w32 n ≡ neg_ℤ (pos n)
  minus = rw (as_it_is n h) (+ℤ_idl (neg_ℤ (pos n)))

  pub minus_fits : SFits w32 (to_z w32 0 -ℤ to_z w32 n)
  minus_fits = rw minus (small n h)
    where
      small : (k : ℕ) → k < 2147483648 → SFits w32 (neg_ℤ (pos k))
      small zero b = record { sfits = omega arith }
      small (suc k) b = record { sfits = omega arith }

  pub minus_is : to_z w32 (of_z w32 (to_z w32 0 -ℤ to_z w32 n)) ≡ neg_ℤ (pos n)
  minus_is = to_z-of_z minus_fits ∙ minus

-- a signed answer that is handed on
pub passed : {z : ℤ} → mag z < 2147483648 → to_z w32 (of_z w32 z) ≡ z
passed h = to_z-of_z {w = w32} (record { sfits = h })

-- a refusal by the number that it has
pub numbered : {z : ℤ} {k : ℕ} → (n : ℕ) × (n ≡ k) × (z ≡ told_as n) → z ≡ told_as k
numbered e = e.2 ∙ ap told_as e.1

-- an answer and a room
pub pair_same {ℓ} : {A B : Type ℓ} {a a' : A} {b b' : B} → a ≡ a' → b ≡ b' → ◌≡◌ {A = A × B} (a, b) (a', b')
pair_same p q = λ i. (p i, q i)

-- a number that is not 0 is no answer to what is done
pub not_done : (n : ℕ) → eqb n 0 ≡ false → Refuses (signed (refused n))
not_done zero e = absurd (eqb-false 0 0 e refl)
not_done (suc n) e = refl
