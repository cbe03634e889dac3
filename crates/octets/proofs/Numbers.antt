-- A number and its octets, both ways, and what is read where some octets stand in others.
--     back16, back32             a number's octets, counted up, are the number
--     be16_back, be32_back       a number's octets are read as the number, however large it is and whatever stands behind them
--     octets16_forth, 32-forth   octets are those of the number that they are read as
--     octets16_of, octets32_of   the same for octets that are written out
--     be16_below                 two octets are read as a number of 16 bits
--     seen, .. drop-seen         where a list goes on with xs from a place on, what is read there is read of xs
--     octet_behind_lem, ..           what is read behind a run of octets
--     length16, length32         how many octets a number has
-- Assumes nothing.
use Prim.Native.Nat.{ℕ, ◌+◌, ◌*◌, ◌/◌, ◌%◌, ◌<◌}
use native.Mathlib.Nat.{div-add-mod, add-zero, add_assoc}
use native.Mathlib.Omega.{arith}
use mathlib.Core.Path.{◌≡◌, refl, ap, sym, ◌∙◌}
use mathlib.Core.List.{List, [], ◌∷◌, ◌++◌}
use lib.ListN.{length, get_or, drop}
use lib.Seq.{get_or-drop, drop-drop, get_or-append-add, drop-append-add}
use Rattle.octets.specs.Octets.{Octets, be16, be32, octets16, octets32, part}

pub length16 : (n : ℕ) → length (octets16 n) ≡ 2
unfolding octets16
length16 n = refl

pub length32 : (n : ℕ) → length (octets32 n) ≡ 4
unfolding octets32 octets16
length32 n = refl

pub back16 : (n : ℕ) → 256 * (n / 256) + n % 256 ≡ n
back16 n = div-add-mod n 256

pub back32 : (n : ℕ) → 65536 * (256 * (n / 65536 / 256) + n / 65536 % 256) + (256 * (n % 65536 / 256) + n % 65536 % 256) ≡ n
back32 n = rw (back16 (n / 65536), back16 (n % 65536)) (div-add-mod n 65536)

pub be16_back : (n : ℕ) (rest : List ℕ) → be16 (octets16 n ++ rest) 0 ≡ n
unfolding be16 octets16
be16_back n rest = back16 n

pub be32_back : (n : ℕ) (rest : List ℕ) → be32 (octets32 n ++ rest) 0 ≡ n
unfolding be32 be16 octets16 octets32
be32_back n rest = back32 n

pub be16_of : (n : ℕ) → be16 (octets16 n) 0 ≡ n
unfolding be16 octets16
be16_of n = back16 n

module _ (a b : ℕ) (hb : b < 256) where
  high : (256 * a + b) / 256 ≡ a
  high = omega arith

  low : (256 * a + b) % 256 ≡ b
  low = omega arith

  pub octets16_of : octets16 (256 * a + b) ≡ a ∷ b ∷ []
  unfolding octets16
  octets16_of = rw (high, low)

pub octets32_of : (a b c d : ℕ) → b < 256 → c < 256 → d < 256
    → octets32 (65536 * (256 * a + b) + (256 * c + d)) ≡ a ∷ b ∷ c ∷ d ∷ []
unfolding octets32
octets32_of a b c d hb hc hd =
    let m = 256 * a + b in
    let n = 256 * c + d in
    let q : (65536 * m + n) / 65536 ≡ m = omega arith in
    let r : (65536 * m + n) % 65536 ≡ n = omega arith in
    rw (q, r, octets16_of a b hb, octets16_of c d hd)

pub octets16_forth : (s : List ℕ) (at : ℕ) → Octets s → octets16 (be16 s at) ≡ get_or s at 0 ∷ get_or s (at + 1) 0 ∷ []
unfolding be16
octets16_forth s at o = octets16_of (get_or s at 0) (get_or s (at + 1) 0) (o (at + 1))

pub octets32_forth : (s : List ℕ) (at : ℕ) → Octets s
    → octets32 (be32 s at) ≡ get_or s at 0 ∷ get_or s (at + 1) 0 ∷ get_or s (at + 2) 0 ∷ get_or s (at + 3) 0 ∷ []
unfolding be32 be16
octets32_forth s at o =
    rw (add_assoc at 2 1)
    (octets32_of (get_or s at 0) (get_or s (at + 1) 0) (get_or s (at + 2) 0) (get_or s (at + 3) 0) (o (at + 1)) (o (at + 2)) (o (at + 3)))

pub be16_below : (s : List ℕ) (at : ℕ) → Octets s → be16 s at < 65536
unfolding be16
be16_below s at o = omega (arith, o at, o (at + 1))

pub seen : (s xs : List ℕ) (p k : ℕ) → drop p s ≡ xs → get_or s (p + k) 0 ≡ get_or xs k 0
seen s xs p k e = sym (get_or-drop p s k 0) ∙ ap (λ l. get_or l k 0) e

pub first_seen : (s xs : List ℕ) (p : ℕ) → drop p s ≡ xs → get_or s p 0 ≡ get_or xs 0 0
first_seen s xs p e = rw add-zero at (seen s xs p 0 e)

pub be16-seen : (s xs : List ℕ) (p k : ℕ) → drop p s ≡ xs → be16 s (p + k) ≡ be16 xs k
unfolding be16
be16-seen s xs p k e = rw (add_assoc p k 1, seen s xs p k e, seen s xs p (k + 1) e)

pub be16_first : (s xs : List ℕ) (p : ℕ) → drop p s ≡ xs → be16 s p ≡ be16 xs 0
be16_first s xs p e = rw add-zero at (be16-seen s xs p 0 e)

pub be32_first : (s xs : List ℕ) (p : ℕ) → drop p s ≡ xs → be32 s p ≡ be32 xs 0
unfolding be32
be32_first s xs p e = rw (be16_first s xs p e, be16-seen s xs p 2 e)

pub drop-seen : (s xs : List ℕ) (p k : ℕ) → drop p s ≡ xs → drop (p + k) s ≡ drop k xs
drop-seen s xs p k e = sym (drop-drop k p s) ∙ ap (drop k) e

module _ (p q : List ℕ) (k : ℕ) where
  pub octet_behind_lem : get_or (p ++ q) (length p + k) 0 ≡ get_or q k 0
  octet_behind_lem = get_or-append-add p q k 0

  pub be16-behind : be16 (p ++ q) (length p + k) ≡ be16 q k
  unfolding be16
  be16-behind = rw (octet_behind_lem, add_assoc (length p) k 1, get_or-append-add p q (k + 1) 0)

pub be32-behind : (p q : List ℕ) (k : ℕ) → be32 (p ++ q) (length p + k) ≡ be32 q k
unfolding be32
be32-behind p q k = rw (be16-behind p q k, add_assoc (length p) k 2, be16-behind p q (k + 2))

pub part-behind : (p q : List ℕ) (k n : ℕ) → part (p ++ q) (length p + k) n ≡ part q k n
unfolding part
part-behind p q k n = rw (drop-append-add p q k)
