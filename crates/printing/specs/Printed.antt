-- What there is to print, as text: octets, letters, the seats of a set; and the pieces that some octets are cut into. Assumes nothing.
use Rattle.std.specs.Prelude.{ℕ, zero, suc, ◌+◌, ◌-◌, ◌/◌, ◌%◌, ◌^◌, ◌≤◌, ◌<◌, ◌==◌, nat_le, nat_lt, ◌&&◌, Bool, false, cond, List, [], ◌∷◌}
use Rattle.std.specs.Prelude.{◌++◌, ◌≡◌, length, map, get_or, slice_range}
use Rattle.std.specs.List.{position_or_len, flat_map}
use Rattle.std.specs.Fmt.{digit_glyph, decimal}
use lib.Chars.{codes}
use Rattle.io.specs.Digits.{IsDigitCount}
use Rattle.words.specs.Choice.{one}

-- an octet in hexadecimal, with a space before it; octets one after the other
abbrev pub octet_text : ℕ → List ℕ
octet_text b = 32 ∷ digit_glyph false (b / 16) ∷ digit_glyph false (b % 16) ∷ []

abbrev pub octets_text : List ℕ → List ℕ
octets_text s = flat_map octet_text s

-- octets as text, where they are letters; a point for each that is none
abbrev pub letter : ℕ → ℕ
letter b = cond (nat_le 32 b && nat_lt b 127) b 46

abbrev pub letters_text : List ℕ → List ℕ
letters_text s = map letter s

-- how many of the first so many seats are in a set
unfoldable pub count_in : List Bool → ℕ → ℕ
count_in set zero = 0
count_in set (suc i) = count_in set i + one (get_or set i false)

-- these seats, each with a space before it
unfoldable pub seats_before : List Bool → ℕ → List ℕ
seats_before set zero = []
seats_before set (suc i) = seats_before set i ++ cond (get_or set i false) (32 ∷ decimal i) []

-- the seats of a set, or nobody
abbrev pub seats_text : List Bool → List ℕ
seats_text set = cond (count_in set 16 == 0) (codes " nobody") (seats_before set 16)

-- how many octets stand before the first mark; all of them, where there is none
abbrev pub index_of : ℕ → List ℕ → ℕ
index_of mark s = position_or_len (λ b. b == mark) s

-- Some octets are cut into pieces: a mark ends each, and the last may be without. Where piece k begins, counted from 0: the first with the
-- octets, each other behind the mark that ends the one before. Where there is no such piece, it is no place of theirs.
unfoldable pub piece_start : ℕ → List ℕ → ℕ → ℕ
piece_start mark s zero = 0
piece_start mark s (suc k) = piece_start mark s k + index_of mark (slice_range s (piece_start mark s k) (length s)) + 1

-- they have so many pieces: each of these begins among them, and none behind these
pub record Pieces (mark : ℕ) (s : List ℕ) (count : ℕ) : Type 0 where
  pub begin : (k : ℕ) → k < count → piece_start mark s k < length s
  pub end : length s ≤ piece_start mark s count

-- there is a piece k, and it is this
pub record IsPiece (mark : ℕ) (s : List ℕ) (k : ℕ) (piece : List ℕ) : Type 0 where
  pub there : piece_start mark s k < length s
  pub octets : piece ≡ slice_range s (piece_start mark s k) (piece_start mark s (k + 1) - 1)

-- "any two results it would allow are proved to coincide" (proofs/Printed): of what is said by no equation, the pieces of some octets and
-- the digits of a number
abbrev pub PiecesCoincide : Type 0
PiecesCoincide = (mark : ℕ) (s : List ℕ) (m n : ℕ) → Pieces mark s m → Pieces mark s n → m ≡ n

abbrev pub DigitsCoincide : Type 0
DigitsCoincide = (n j k : ℕ) → IsDigitCount 10 1 n j → IsDigitCount 10 1 n k → j ≡ k

-- a number is printed with as many digits as it has: what is printed is std's text of it (proved in proofs/Printed)
abbrev pub DigitsPrinted : Type 0
DigitsPrinted = (n : ℕ) → n < 2 ^ 64 → IsDigitCount 10 1 n (length (decimal n))
