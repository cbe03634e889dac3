-- Laws of tests: two that pass together are the same, and a test of every number below n goes by each of them. Assumes nothing.
use Prim.Native.Nat.{ℕ, zero, suc, ◌<◌}
use mathlib.Core.Path.{◌≡◌, refl, sym}
use mathlib.Core.Bool.{Bool, true, false}
use native.Mathlib.Omega.{arith}
use Rattle.words.specs.Below.{all_below}
use Rattle.words.proofs.Tests.{both}

-- a test of every number below n holds where each does
pub all_below_lem : (f : ℕ → Bool) (n : ℕ) → ((i : ℕ) → i < n → f i ≡ true) → all_below f n ≡ true
all_below_lem f zero g = refl
all_below_lem f (suc n) g = both (f n) (all_below f n) (g n (omega arith)) (all_below_lem f n (λ i h. g i (omega arith)))

-- two tests that pass together are the same
pub together : (a b : Bool) → (a ≡ true → b ≡ true) → (b ≡ true → a ≡ true) → a ≡ b
together true b f g = sym (f refl)
together false true f g = g refl
together false false f g = refl

-- two tests of every number below n that are the same at each
pub below_same : (f g : ℕ → Bool) (n : ℕ) → ((i : ℕ) → i < n → f i ≡ g i) → all_below f n ≡ all_below g n
below_same f g zero h = refl
below_same f g (suc n) h =
    let e : f n ≡ g n = h n (omega arith) in
    let r : all_below f n ≡ all_below g n = below_same f g n (λ i b. h i (omega arith)) in
    rw (e, r)
