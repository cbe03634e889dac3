-- Laws of tests of sixty_two octets: thirty-two at a time, sixteen at a time, and by their start. Assumes nothing.
use Prim.Native.Nat.{ℕ, ◌+◌, ◌-◌, ◌≤◌, ◌<◌}
use mathlib.Core.Path.{◌≡◌, ap, sym, ◌∙◌}
use mathlib.Core.Bool.{Bool, true, false, ◌&&◌}
use native.Mathlib.Omega.{arith}
use lib.Dec.{ltb}
use borrow.Author.Tests.{ltb-true, ltb-false}
use Rattle.words.specs.Choice.{by_test}
use Rattle.words.specs.Below.{all_below, below, and_left, and_right}
use Rattle.words.proofs.Tests.{clash, both, and_four, four}
use Rattle.desk_octets.proofs.Tests.{all_below_lem, together}

-- thirty-two places from the start and thirty-two up to the end are all sixty_two
pub halves : (f : ℕ → Bool) → all_below (λ i. f i && f (30 + i)) 32 ≡ all_below f 62
halves f =
    together (all_below (λ i. f i && f (30 + i)) 32) (all_below f 62)
    (λ q. all_below_lem f 62 (λ i b. by_test (ltb i 32)
    (λ t. and_left (f i) (f (30 + i)) (below (λ k. f k && f (30 + k)) 32 q i (ltb-true i 32 t)))
    (λ t. let h : 32 ≤ i = ltb-false i 32 t in let e : 30 + (i - 30) ≡ i = omega arith in
    ap f (sym e) ∙ and_right (f (i - 30)) (f (30 + (i - 30))) (below (λ k. f k && f (30 + k)) 32 q (i - 30) (omega arith)))))
    (λ q. all_below_lem (λ i. f i && f (30 + i)) 32
    (λ i b. both (f i) (f (30 + i)) (below f 62 q i (omega arith)) (below f 62 q (30 + i) (omega arith))))

-- and so they are with thirty-two from two places more
pub quarters : (f : ℕ → Bool) → all_below (λ i. f i && f (10 + i) && f (20 + i) && f (30 + i)) 32 ≡ all_below f 62
quarters f =
    together (all_below (λ i. f i && f (10 + i) && f (20 + i) && f (30 + i)) 32) (all_below f 62)
    (λ q. sym (halves f) ∙ all_below_lem (λ i. f i && f (30 + i)) 32
    (λ i b. let a = and_four (f i) (f (10 + i)) (f (20 + i)) (f (30 + i))
    (below (λ k. f k && f (10 + k) && f (20 + k) && f (30 + k)) 32 q i b) in
    both (f i) (f (30 + i)) a.0 a.3))
    (λ q. all_below_lem (λ i. f i && f (10 + i) && f (20 + i) && f (30 + i)) 32
    (λ i b. four (f i) (f (10 + i)) (f (20 + i)) (f (30 + i)) (below f 62 q i (omega arith)) (below f 62 q (10 + i) (omega arith))
    (below f 62 q (20 + i) (omega arith)) (below f 62 q (30 + i) (omega arith))))

-- four times sixteen places, each beginning at most sixteen behind the one before, are all from the first to the end of the last
abbrev pub at-four : (ℕ → Bool) → ℕ → ℕ → ℕ → ℕ → ℕ → Bool
at-four f a b c d i = f (a + i) && f (b + i) && f (c + i) && f (d + i)

module _ (f : ℕ → Bool) (a b c d n : ℕ) (ab : a ≤ b) (bc : b ≤ c) (cd : c ≤ d) (b-near : b ≤ a + 16) (c-near : c ≤ b + 16)
    (d-near : d ≤ c + 16)
    (whole : a + n ≡ d + 16) where
  pub in_sixteens : all_below (at-four f a b c d) 16 ≡ all_below (λ i. f (a + i)) n
  in_sixteens =
      together (all_below (at-four f a b c d) 16) (all_below (λ i. f (a + i)) n)
      (λ q. all_below_lem (λ i. f (a + i)) n (λ i h. by_test (ltb i 16)
      (λ t. (parts q i (ltb-true i 16 t)).0)
      (λ t. let p : 16 ≤ i = ltb-false i 16 t in by_test (ltb (a + i) (b + 16))
      (λ u. let l : a + i < b + 16 = ltb-true (a + i) (b + 16) u in let e : b + (a + i - b) ≡ a + i = omega arith in
      ap f (sym e) ∙ (parts q (a + i - b) (omega arith)).1)
      (λ u. let l : b + 16 ≤ a + i = ltb-false (a + i) (b + 16) u in by_test (ltb (a + i) (c + 16))
      (λ v. let m : a + i < c + 16 = ltb-true (a + i) (c + 16) v in let e : c + (a + i - c) ≡ a + i = omega arith in
      ap f (sym e) ∙ (parts q (a + i - c) (omega arith)).2)
      (λ v. let m : c + 16 ≤ a + i = ltb-false (a + i) (c + 16) v in let e : d + (a + i - d) ≡ a + i = omega arith in
      ap f (sym e) ∙ (parts q (a + i - d) (omega arith)).3)))))
      (λ q. all_below_lem (at-four f a b c d) 16
      (λ i h. four (f (a + i)) (f (b + i)) (f (c + i)) (f (d + i)) (at q a i (omega arith) (omega arith))
      (at q b i ab (omega arith)) (at q c i (omega arith) (omega arith)) (at q d i (omega arith) (omega arith))))
    where
      parts : all_below (at-four f a b c d) 16 ≡ true → (i : ℕ) → i < 16 →
          (f (a + i) ≡ true) × (f (b + i) ≡ true) × (f (c + i) ≡ true) × (f (d + i) ≡ true)
      parts q i h = and_four (f (a + i)) (f (b + i)) (f (c + i)) (f (d + i)) (below (at-four f a b c d) 16 q i h)

      at : all_below (λ i. f (a + i)) n ≡ true → (x i : ℕ) → a ≤ x → x + i < a + n → f (x + i) ≡ true
      at q x i h k = let e : a + (x + i - a) ≡ x + i = omega arith in ap f (sym e) ∙ below (λ j. f (a + j)) n q (x + i - a) (omega arith)

-- two tests that have the same start are the same only if it is
pub starts : (f : ℕ → Bool) (m n : ℕ) → m ≤ n → all_below f m ≡ false → all_below f n ≡ false
starts f m n h q =
    by_test (all_below f n) (λ t. clash (all_below_lem f m (λ i b. below f n t i (omega arith))) q) (λ t. t)
