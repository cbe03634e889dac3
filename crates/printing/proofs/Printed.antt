-- A piece begins behind all before it; a seat more is counted or not; a promise that is no equation allows one answer. Assumes nothing.
use Prim.Native.Nat.{ℕ, zero, suc, min, ◌+◌, ◌-◌, ◌/◌, ◌%◌, ◌≤◌, ◌<◌}
use native.Mathlib.Nat.{add-zero, add-suc, pow-le-pow_right}
use native.Mathlib.Numerals.{add-one}
use native.Mathlib.Omega.{arith}
use mathlib.Core.Bool.{Bool, true, false}
use mathlib.Core.List.{List}
use mathlib.Core.Path.{◌≡◌, refl, sym, ◌∙◌, ap}
use lib.Dec.{leb}
use lib.ListN.{length, get_or, take, length-take, length-drop}
use lib.Seq.{take_all}
use Rattle.std.proofs.lemmas.Bool.Decides.{nat_tests}
use Rattle.std.proofs.lemmas.Str.{encode_ascii}
use Rattle.std.specs.Char.{encode_utf8}
use Rattle.std.specs.Option.{unwrap_or}
use Rattle.std.specs.List.{position_or_len}
use Rattle.std.proofs.Common.{Some, None, not, nat_lt, cond, position, count_by, append-nil, [], ◌∷◌, ◌++◌, ◌^◌}
use Rattle.std.specs.Fmt.{digits, padded_integral, format_spec, decimal}
use Rattle.std.proofs.lemmas.Fmt.{hex_byte, decimal_by_steps}
use Rattle.std.proofs.lemmas.List.{map_more, take_more, flat_map_more, length-append}
use Rattle.std.proofs.lemmas.List.Sums.{count_by_more_yes, count_by_more_no, prefix_len-le-length}
use Rattle.std.specs.Prelude.{slice_range}
use borrow.Author.Tests.{leb-true, leb-false}
use Rattle.io.specs.Digits.{IsDigitCount}
use Rattle.octets.specs.Octets.{part}
use Rattle.words.specs.Choice.{by_test, one}
use Rattle.printing.specs.Printed.{index_of, piece_start, Pieces, count_in, seats_before, octets_text, letters_text, letter, octet_text}
use Rattle.printing.specs.Printed.{PiecesCoincide, DigitsCoincide, DigitsPrinted}

module _ (mark : ℕ) (s : List ℕ) where
  -- behind the mark that is found from where piece k begins, the next one begins
  pub next-begins : (k from end : ℕ) → from ≡ piece_start mark s k → end ≡ from + index_of mark (slice_range s from (length s))
      → end + 1 ≡ piece_start mark s (k + 1)
  unfolding piece_start
  next-begins k from end p q = rw (add-one k, q, p)

  later : (k d : ℕ) → piece_start mark s k ≤ piece_start mark s (k + d)
  unfolding piece_start
  later k zero = rw (add-zero k) (omega arith)
  later k (suc d) = let h = later k d in rw (add-suc k d) (omega arith)

  pub in_order : (k j : ℕ) → k ≤ j → piece_start mark s k ≤ piece_start mark s j
  in_order k j h =
      let e : k + (j - k) ≡ j = omega arith in
      rw e at (later k (j - k))

  -- each piece begins one place further at least
  pub behind : (k : ℕ) → k ≤ piece_start mark s k
  unfolding piece_start
  behind zero = omega arith
  behind (suc k) = let h = behind k in omega arith

  not_more : (m n : ℕ) → Pieces mark s m → Pieces mark s n → n ≤ m
  not_more m n p q = by_test (leb n m) (leb-true n m) (λ t. omega (arith, p.end, q.begin m (leb-false n m t)))

pub pieces_coincide : PiecesCoincide
pieces_coincide mark s m n p q = omega (arith, not_more mark s m n p q, not_more mark s n m q p)

-- an octet more is printed behind those before it
pub octet_more : (s : List ℕ) (i : ℕ) → i < length s → get_or s i 0 < 256
    → octets_text (take i s) ++ (32 ∷ padded_integral (format_spec 32 0 4 2 (2 ^ 64 - 1)) false [] (digits 16 false (get_or s i 0)))
    ≡ octets_text (take (i + 1) s)
octet_more s i h small =
    simp (hex_byte false (get_or s i 0) small)
    (flat_map_more octet_text [] (take i s) (get_or s i 0) ∙ ap octets_text (sym (take_more s i 0 h)))

pub letter_more : (s : List ℕ) (i : ℕ) → i < length s →
    letters_text (take i s) ++ (letter (get_or s i 0) ∷ []) ≡ letters_text (take (i + 1) s)
letter_more s i h = sym (map_more letter s i 0 h)

letter_small : (b : ℕ) → letter b < 128
letter_small b = grind (arith, nat_tests)

-- a letter is one octet of text
pub letter_octet : (b : ℕ) → encode_utf8 (letter b) ≡ letter b ∷ []
letter_octet b = encode_ascii (letter b) (letter_small b)

-- a part is as long as is asked for, as far as there are octets
pub part_length : (s : List ℕ) (from count : ℕ) → length (part s from count) ≡ min count (length s - from)
unfolding part
part_length s from count = simp (length-take, length-drop)

first_place : (k n : ℕ) → k ≤ n → unwrap_or (cond (nat_lt k n) (Some k) None) n ≡ k
first_place k n h = grind (arith, nat_tests)

-- the first place that passes, or the end
pub first_or_end : (p : ℕ → Bool) (s : List ℕ) → unwrap_or (position p s) (length s) ≡ position_or_len p s
first_or_end p s = first_place (position_or_len p s) (length s) (prefix_len-le-length (λ (x : ℕ). not (p x)) s)

-- those counted are those in the list
counted_more : (set : List Bool) (i : ℕ) (b : Bool) → i < length set → get_or set i false ≡ b
    → count_by (λ (b : Bool). b) (take i set) + one b ≡ count_by (λ (b : Bool). b) (take (i + 1) set)
counted_more set i true h e = sym (count_by_more_yes (λ (b : Bool). b) set i false h e)
counted_more set i false h e = add-zero _ ∙ sym (count_by_more_no (λ (b : Bool). b) set i false h e)

counted_to : (set : List Bool) (i : ℕ) → i ≤ length set → count_in set i ≡ count_by (λ (b : Bool). b) (take i set)
unfolding count_in
counted_to set zero h = refl
counted_to set (suc i) h =
    let more = counted_more set i (get_or set i false) (omega arith) refl in
    let more = rw (add-one i) at more in
    rw (counted_to set i (omega arith)) more

pub counted : (set : List Bool) (n : ℕ) → length set ≡ n → count_in set n ≡ count_by (λ (b : Bool). b) set
counted set n h = counted_to set n (omega arith) ∙ ap (count_by (λ (b : Bool). b)) (take_all n set (omega arith))

-- the next seat is printed, or it is left out
module _ (set : List Bool) (i : ℕ) where
  pub seat_printed : get_or set i false ≡ true → seats_before set i ++ (32 ∷ decimal i) ≡ seats_before set (i + 1)
  unfolding seats_before
  seat_printed e = rw (add-one i, e)

  pub seat_left_out : get_or set i false ≡ false → seats_before set i ≡ seats_before set (i + 1)
  unfolding seats_before
  seat_left_out e = rw (add-one i, e) (sym (append-nil _))

-- more digits than hold a number are not the fewest
module _ (n j k : ℕ) (p : IsDigitCount 10 1 n j) (q : IsDigitCount 10 1 n k) where
  fewer_hold : j < k → k ≤ j
  fewer_hold h =
      let u : j ≤ k - 1 = omega arith in
      let v : 1 < k = omega (arith, p.0) in
      omega (arith, p.1, q.2 v, pow-le-pow_right {n = 10} (omega arith) u)

  no_more_digits : k ≤ j
  no_more_digits = by_test (leb k j) (leb-true k j) (λ t. fewer_hold (leb-false k j t))

pub digits_coincide : DigitsCoincide
digits_coincide n j k p q = omega (arith, no_more_digits n j k p q, no_more_digits n k j q p)

-- a digit more holds ten times as much
more_digits : (n k : ℕ) → 10 ≤ n → IsDigitCount 10 1 (n / 10) k → IsDigitCount 10 1 n (suc k)
more_digits n zero h p = absurd (omega (arith, p.0))
more_digits n (suc zero) h p = (omega arith, omega (arith, p.1), λ v. omega arith)
more_digits n (suc (suc j)) h p =
    let few : suc (suc j) - 1 ≡ suc j = omega arith in
    let more : suc (suc (suc j)) - 1 ≡ suc (suc j) = omega arith in
    let q = rw few at (p.2 (omega arith)) in
    (omega arith, omega (arith, p.1), λ v. rw more (omega (arith, q)))

pub digits_printed : DigitsPrinted
digits_printed n small = decimal_by_steps (λ m ds. IsDigitCount 10 1 m (length ds)) (λ m h. (omega arith, omega arith, λ v. omega arith))
    (λ m ds h p. rw (length-append ds ((48 + m % 10) ∷ []), add-one) (more_digits m (length ds) h p)) n small
