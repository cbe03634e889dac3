-- A set of seats as a number: each seat is one bit, so sixteen seats fit 16 bits. Assumes nothing.
use Prim.Native.Nat.{ℕ, zero, suc, ◌+◌, ◌-◌, ◌*◌, ◌^◌, ◌≤◌, ◌<◌}
use native.Mathlib.Nat.{mul_assoc, pow-suc, not-suc-le-zero, le_of_suc-le-suc, le_of_eq}
use native.Mathlib.Omega.{arith}
use native.Mathlib.Numerals.{add-one}
use mathlib.Core.Bool.{Bool, true, false}
use mathlib.Core.List.{List, [], ◌∷◌}
use mathlib.Core.Path.{◌≡◌, refl, ap, sym}
use mir.Val.{bool_byte}
use lib.ListN.{length, get_or, take, drop, length-take, length-drop, drop_of_length-le}
use lib.Pow.{pow_pos}
use lib.Seq.{drop-cons}
use Rattle.words.specs.Choice.{one}
use Rattle.report_octets.specs.Report.{mask_of}

-- `u8::from` counts a test
pub one_byte : (b : Bool) → bool_byte b ≡ one b
one_byte true = refl
one_byte false = refl

pub byte-most : (b : Bool) → bool_byte b ≤ 1
byte-most true = omega arith
byte-most false = omega arith

one-most : (b : Bool) → one b ≤ 1
one-most true = omega arith
one-most false = omega arith

pub mask_fits : (set : List Bool) (k : ℕ) → length set ≤ k → mask_of set < 2 ^ k
mask_fits [] k h = pow_pos k
mask_fits (b ∷ bs) zero h = absurd (not-suc-le-zero h)
mask_fits (b ∷ bs) (suc k) h =
    let n : mask_of bs < 2 ^ k = mask_fits bs k (le_of_suc-le-suc h) in
    rw pow-suc (omega (arith, one-most b))

-- one seat more in front
pub mask_from : (set : List Bool) (i : ℕ) → i < length set →
    mask_of (drop i set) ≡ one (get_or set i false) + 2 * mask_of (drop (i + 1) set)
mask_from set i h = rw add-one (ap mask_of (drop-cons set i false h))

pub mask_turn : (set : List Bool) (i mask : ℕ) (b : Bool) → 0 < i → i ≤ length set → mask ≡ mask_of (drop i set) →
    get_or set (i - 1) false ≡ b
    → one b + 2 * mask ≡ mask_of (drop (i - 1) set)
mask_turn set i mask b p h m e =
    let j : i - 1 + 1 ≡ i = omega arith in
    sym (rw (e, j, ← m) at (mask_from set (i - 1) (omega arith)))

-- what is still to come of eight fits
pub mask_small : (set : List Bool) (i mask : ℕ) → 0 < i → length set ≡ 8 → mask ≡ mask_of (drop i set) → mask < 2 ^ 7
mask_small set i mask p h m = rw m (mask_fits (drop i set) 7 (rw length-drop (omega arith)))

pub mask_none : (set : List Bool) → length set ≡ 8 → 0 ≡ mask_of (drop 8 set)
mask_none set h = sym (ap mask_of (drop_of_length-le set (le_of_eq h)))

-- a number from its two parts
mask_parts : (n : ℕ) (set : List Bool) → mask_of set ≡ mask_of (take n set) + 2 ^ n * mask_of (drop n set)
mask_parts zero set = omega arith
mask_parts (suc n) [] = omega arith
mask_parts (suc n) (b ∷ bs) = rw (mask_parts n bs, pow-suc, mul_assoc) (omega arith)

-- eight seats and eight more
module _ (set : List Bool) (whole : length set ≡ 16) where
  pub low_length : length (take 8 set) ≡ 8
  low_length = rw length-take (omega arith)

  pub high_length : length (drop 8 set) ≡ 8
  high_length = rw length-drop (omega arith)

  pub two-octets : mask_of (drop 8 set) * 256 + mask_of (take 8 set) ≡ mask_of set
  two-octets = omega (arith, mask_parts 8 set)
