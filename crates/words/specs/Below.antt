-- A test of every number below n, and the rule that it gives: how a table is proved once, by computing. Assumes nothing.
use Rattle.std.specs.Prelude.{ℕ, zero, suc, ◌<◌, Bool, true, false, ◌&&◌, ◌≡◌, refl}
use Rattle.std.proofs.Common.{not-suc-le-zero, eq-or-lt_of_le, le_of_suc-le-suc, ap, ◌∙◌, ⊎_elim}

-- the test passes at each number below n
abbrev pub all_below : (ℕ → Bool) → ℕ → Bool
all_below f zero = true
all_below f (suc n) = f n && all_below f n

-- both tests of an `&&` that passes
pub and_left : (a b : Bool) → (a && b) ≡ true → a ≡ true
and_left true b e = refl
and_left false b e = e

pub and_right : (a b : Bool) → (a && b) ≡ true → b ≡ true
and_right true b e = e
and_right false true e = refl
and_right false false e = e

pub below : (f : ℕ → Bool) (n : ℕ) → all_below f n ≡ true → (i : ℕ) → i < n → f i ≡ true
below f zero e i h = absurd (not-suc-le-zero h)
below f (suc n) e i h =
    ⊎_elim (λ q. ap f q ∙ and_left (f n) (all_below f n) e) (λ l. below f n (and_right (f n) (all_below f n) e) i l)
    (eq-or-lt_of_le (le_of_suc-le-suc h))
