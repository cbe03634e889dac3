-- Numbers put together again from their octets, what is read where other octets stand in front, and octets read one by one; over the laws
-- of octets/proofs/Numbers. Assumes nothing.
use Prim.Native.Nat.{ℕ, zero, suc, ◌+◌, ◌*◌, ◌/◌, ◌%◌, ◌≤◌, ◌<◌}
use native.Mathlib.Nat.{div-add-mod'}
use native.Mathlib.Omega.{arith}
use mathlib.Core.List.{List, [], ◌∷◌, ◌++◌}
use mathlib.Core.Path.{◌≡◌, refl, ap, ◌∙◌}
use lib.ListN.{length, get_or, take, drop}
use lib.Seq.{drop-cons}
use Rattle.octets.specs.Octets.{be16, be32, octets16, octets32, part, Octets}
use Rattle.octets.proofs.Numbers.{octets16_of, octets32_of, octet_behind_lem, be16-behind, be32-behind, part-behind}

-- a number, put together again from its two octets, and from its four
pub number_again : (n : ℕ) → 256 * (n / 256) + n % 256 ≡ n
number_again n = omega (arith, div-add-mod' n 256)

pub long_again : (n : ℕ)
    → 65536 * (256 * (n / 65536 / 256) + n / 65536 % 256) + (256 * (n % 65536 / 256) + n % 65536 % 256) ≡ n
long_again n =
    omega (arith, number_again (n / 65536), number_again (n % 65536), div-add-mod' n 65536)

-- what is read at a place of s, where s has q behind p
module _ (s p q : List ℕ) (is : s ≡ p ++ q) (n k : ℕ) (at : n ≡ length p + k) where
  pub octet_at_lem : get_or s n 0 ≡ get_or q k 0
  octet_at_lem = rw (is, at) (octet_behind_lem p q k)

  pub be16-at : be16 s n ≡ be16 q k
  be16-at = rw (is, at) (be16-behind p q k)

  pub be32-at : be32 s n ≡ be32 q k
  be32-at = rw (is, at) (be32-behind p q k)

  pub part_at : (m : ℕ) → part s n m ≡ part q k m
  part_at m = rw (is, at) (part-behind p q k m)

-- so many octets from a place on, one by one
abbrev pub run : List ℕ → ℕ → ℕ → ℕ → List ℕ
run s at k zero = []
run s at k (suc n) = get_or s (at + k) 0 ∷ run s at (suc k) n

pub run_is : (s : List ℕ) (at k n : ℕ) → at + k + n ≤ length s → run s at k n ≡ take n (drop (at + k) s)
run_is s at k zero h = refl
run_is s at k (suc n) h =
    let l : at + k < length s = omega arith in
    let q : at + suc k ≡ suc (at + k) = omega arith in
    rw (drop-cons s (at + k) 0 l, run_is s at (suc k) n (omega arith), q)

module _ (s : List ℕ) (octets : Octets s) where
  same_place : (m n : ℕ) → m ≡ n → get_or s m 0 ≡ get_or s n 0
  same_place m n e = ap (λ (i : ℕ). get_or s i 0) e

  -- a number written again where it was read
  pub word_back : (at k : ℕ) → octets16 (be16 s (at + k)) ≡ get_or s (at + k) 0 ∷ get_or s (at + (k + 1)) 0 ∷ []
  unfolding be16
  word_back at k =
      octets16_of (get_or s (at + k) 0) (get_or s (at + k + 1) 0) (octets (at + k + 1))
      ∙ ap (λ (x : ℕ). get_or s (at + k) 0 ∷ x ∷ []) (same_place (at + k + 1) (at + (k + 1)) (omega arith))

  pub long_back : (at k : ℕ) →
      octets32 (be32 s (at + k))
      ≡ get_or s (at + k) 0 ∷ get_or s (at + (k + 1)) 0 ∷ get_or s (at + (k + 2)) 0 ∷ get_or s (at + (k + 3)) 0 ∷ []
  unfolding be32 be16
  long_back at k =
      octets32_of (get_or s (at + k) 0) (get_or s (at + k + 1) 0) (get_or s (at + k + 2) 0) (get_or s (at + k + 2 + 1) 0)
      (octets (at + k + 1))
      (octets (at + k + 2)) (octets (at + k + 2 + 1))
      ∙ rw (
        same_place (at + k + 1) (at + (k + 1)) (omega arith),
        same_place (at + k + 2) (at + (k + 2)) (omega arith),
        same_place (at + k + 2 + 1) (at + (k + 3)) (omega arith),
      )
