-- A sheet read again: its trailer, its settings and its seats are those that were written. Assumes nothing.
use Prim.Native.Nat.{ℕ, ◌+◌, ◌≤◌}
use native.Mathlib.Omega.{arith}
use mathlib.Core.Bool.{true}
use mathlib.Core.List.{List, [], ◌∷◌, ◌++◌, append_assoc}
use mathlib.Core.Path.{◌≡◌, refl, sym, ap, ◌∙◌}
use Rattle.std.proofs.Common.{Some}
use lib.Dec.{eqb}
use lib.ListN.{length, get_or, length-append}
use lib.Seq.{take-append_seam}
use borrow.Author.Tests.{le-leb, eq-eqb}
use Rattle.words.specs.Choice.{when◌then◌else◌}
use Rattle.words.proofs.Tests.{both}
use Rattle.octets.specs.Octets.{be16, be32, octets16, octets32, part}
use Rattle.hall.specs.declared.Settings.{Settings}
use Rattle.seat_octets.specs.Layout.{flags_octet, flags_top, settings_octets, unused_zero, zeros_fit}
use Rattle.seat_octets.proofs.Numbers.{number_again, long_again, octet_at_lem, be16-at, be32-at, part_at}
use Rattle.seat_octets.proofs.Bits.{flags_back, flags_few}
use Rattle.seat_octets.proofs.SettingsLaws.{settings_long, settings_back, zeros_say}
use Rattle.sheet.specs.Layout.{Seat, form, sheet_letters, tail_size, octets_of_seat, seats_octets, trailer, sheet}
use Rattle.sheet.specs.Framing.{settings_place, trailer_place, seat_count}
use Rattle.sheet.proofs.Frames.{Framed}
use Rattle.sheet.proofs.Sizes.{length_seat, length-trailer, length-sheet}
use Rattle.loading.specs.Loading.{settings_on, identity_length, after_seat, who_is, read_seat, laid_out, read_seats}

-- what stands in the trailer
module _ (at count : ℕ) where
  unfolds : Type 0
  unfolding trailer octets16 be16
  unfolds = ℕ

  settings_there : be16 (trailer at count) 0 ≡ at
  unfolding unfolds
  settings_there = number_again at

  seats_there : be16 (trailer at count) 2 ≡ 0
  unfolding unfolds
  seats_there = refl

  count_there : get_or (trailer at count) 4 0 ≡ count
  unfolding unfolds
  count_there = refl

  form_there : get_or (trailer at count) 5 0 ≡ form
  unfolding unfolds
  form_there = refl

  letters_there : be16 (trailer at count) 6 ≡ sheet_letters
  unfolding unfolds
  letters_there = refl

module _ (xs : List Seat) (st : Settings) where
  abbrev s : List ℕ
  s = sheet xs st

  abbrev o : List ℕ
  o = seats_octets xs

  abbrev t : List ℕ
  t = trailer (length (seats_octets xs)) (length xs)

  -- what stands behind the seats
  abbrev pub ending : List ℕ
  ending = settings_octets st ++ trailer (length (seats_octets xs)) (length xs)

  pub length-ending : length ending ≡ tail_size
  length-ending = length-append (settings_octets st) t ∙ omega (arith, settings_long st, length-trailer (length o) (length xs))

  pub sheet-ends : sheet xs st ≡ seats_octets xs ++ ending
  unfolding sheet
  sheet-ends = append_assoc (seats_octets xs) (settings_octets st) t

  -- the trailer, behind the seats and the settings
  trailer-behind : sheet xs st ≡ (seats_octets xs ++ settings_octets st) ++ t
  unfolding sheet
  trailer-behind = refl

  module _ (n k : ℕ) (here : n ≡ trailer_place (sheet xs st) + k) where
    place : n ≡ length (seats_octets xs ++ settings_octets st) + k
    place = omega (arith, here, length-sheet xs st, length-append (seats_octets xs) (settings_octets st), settings_long st)

    octet : get_or (sheet xs st) n 0 ≡ get_or t k 0
    octet = octet_at_lem s (o ++ settings_octets st) t trailer-behind n k place

    word : be16 (sheet xs st) n ≡ be16 t k
    word = be16-at s (o ++ settings_octets st) t trailer-behind n k place

  pub count_read : seat_count (sheet xs st) ≡ length xs
  count_read = octet _ 4 refl ∙ count_there (length o) (length xs)

  -- nothing is wrong with it
  pub framed_sheet : length xs ≤ 16 → Framed (sheet xs st)
  framed_sheet few =
      record {
        long = omega (arith, length-sheet xs st);
        lettered = word _ 6 refl ∙ letters_there (length o) (length xs);
        formed = octet _ 5 refl ∙ form_there (length o) (length xs);
        few = omega (arith, count_read);
        placed = omega (arith, length-sheet xs st, word (trailer_place s) 0 (omega arith) ∙ settings_there (length o) (length xs));
        first = word _ 2 refl ∙ seats_there (length o) (length xs);
      }

  settings_again : (settings_on (sheet xs st) ≡ st) × (unused_zero (sheet xs st) (settings_place (sheet xs st)) ≡ true)
  settings_again = settings_back s o t (settings_place s) st sheet-ends (omega (arith, length-sheet xs st))

  pub settings_read : settings_on (sheet xs st) ≡ st
  settings_read = settings_again.0

  -- its zeros are zero where the level is
  pub zeros_read : st.normal ≡ 0 → zeros_fit (sheet xs st) (settings_place (sheet xs st)) ≡ true
  zeros_read z =
      zeros_say s (settings_place s)
      ∙ both (eqb (settings_on s).normal 0) (unused_zero s (settings_place s))
      (eq-eqb (settings_on s).normal 0 (ap (λ (g : Settings). g.normal) settings_read ∙ z)) settings_again.1

-- a seat's octets, with others behind them
module _ (x : Seat) (r : List ℕ) where
  opens : Type 0
  unfolding octets_of_seat octets32 octets16 be16 be32 part
  opens = ℕ

  flags_there : get_or (octets_of_seat x ++ r) 0 0 ≡ flags_octet x.who.flags
  unfolding opens
  flags_there = refl

  highest_there : get_or (octets_of_seat x ++ r) 1 0 ≡ x.who.highest
  unfolding opens
  highest_there = refl

  seat_ssrc_there : be32 (octets_of_seat x ++ r) 2 ≡ x.who.ssrc
  unfolding opens
  seat_ssrc_there = long_again x.who.ssrc

  length_there : get_or (octets_of_seat x ++ r) 6 0 ≡ length x.identity
  unfolding opens
  length_there = refl

  identity_there : part (octets_of_seat x ++ r) 7 (length x.identity) ≡ x.identity
  unfolding opens
  identity_there = take-append_seam x.identity r

  module _ (s p : List ℕ) (at : ℕ) (is : s ≡ p ++ (octets_of_seat x ++ r)) (here : at ≡ length p) where
    len : identity_length s at ≡ length x.identity
    len = octet_at_lem s p (octets_of_seat x ++ r) is (at + 6) 6 (omega arith) ∙ length_there

    flags_read : get_or s at 0 ≡ flags_octet x.who.flags
    flags_read = octet_at_lem s p (octets_of_seat x ++ r) is at 0 (omega arith) ∙ flags_there

    pub after_read : after_seat s at ≡ length p + length (octets_of_seat x)
    after_read = omega (arith, len, length_seat x)

    pub seat_read : read_seat s at ≡ x
    unfolding read_seat who_is
    seat_read =
        rw (
          be32-at s p (octets_of_seat x ++ r) is (at + 2) 2 (omega arith) ∙ seat_ssrc_there,
          octet_at_lem s p (octets_of_seat x ++ r) is (at + 1) 1 (omega arith) ∙ highest_there,
          flags_read,
          flags_back x.who.flags,
          len,
          part_at s p (octets_of_seat x ++ r) is (at + 7) 7 (omega arith) (length x.identity) ∙ identity_there,
        )

    pub seat_laid_out : tail_size ≤ length r → laid_out s at ≡ true
    unfolding laid_out
    seat_laid_out h =
        let l : length s ≡ length p + (length (octets_of_seat x) + length r) =
        rw is (length-append p (octets_of_seat x ++ r) ∙ ap (λ (n : ℕ). length p + n) (length-append (octets_of_seat x) r)) in
        rw (
          le-leb (after_seat s at) (settings_place s) (omega (arith, after_read, l)),
          flags_read,
          le-leb (flags_octet x.who.flags) flags_top (flags_few x.who.flags),
        )

pub all_read : (xs : List Seat) (s p r : List ℕ) (at : ℕ) → s ≡ p ++ (seats_octets xs ++ r) → at ≡ length p → length r ≡ tail_size
    → read_seats (length xs) s at ≡ Some xs
unfolding read_seats seats_octets when◌then◌else◌
all_read [] s p r at is here l =
    let q : length s ≡ length p + tail_size = rw is (length-append p r ∙ ap (λ (n : ℕ). length p + n) l) in
    rw (eq-eqb at (settings_place s) (omega arith))
all_read (x ∷ xs) s p r at is here l =
    let rest : List ℕ = seats_octets xs ++ r in
    let is' : s ≡ p ++ (octets_of_seat x ++ rest) =
    is ∙ ap (λ (t : List ℕ). p ++ t) (append_assoc (octets_of_seat x) (seats_octets xs) r) in
    let k : tail_size ≤ length rest = omega (arith, length-append (seats_octets xs) r) in
    let on : read_seats (length xs) s (after_seat s at) ≡ Some xs =
    all_read xs s (p ++ octets_of_seat x) r (after_seat s at) (is' ∙ sym (append_assoc p (octets_of_seat x) rest))
    (after_read x rest s p at is' here ∙ sym (length-append p (octets_of_seat x))) l in
    rw (seat_laid_out x rest s p at is' here k, seat_read x rest s p at is' here, on)

-- the seats of a sheet
pub seats_again : (xs : List Seat) (st : Settings) → read_seats (seat_count (sheet xs st)) (sheet xs st) 0 ≡ Some xs
seats_again xs st =
    ap (λ (n : ℕ). read_seats n (sheet xs st) 0) (count_read xs st)
    ∙ all_read xs (sheet xs st) [] (ending xs st) 0 (sheet-ends xs st) refl (length-ending xs st)
