-- The test of the seats in their octets is the test of the seats that they stand for. Assumes nothing.
use Rattle.desk_octets.specs.Places.{settings_start}
use Prim.Native.Nat.{ℕ, ◌≤◌, ◌<◌}
use mathlib.Core.Path.{◌≡◌, refl, ap, sym, ◌∙◌}
use mathlib.Core.Bool.{Bool, true, not, ◌&&◌, and_assoc}
use mathlib.Core.List.{List}
use native.Mathlib.Omega.{arith}
use lib.Dec.{eqb}
use borrow.Author.Tests.{eq-eqb}
use Rattle.words.specs.Choice.{when◌then◌else◌, if_yes, if_no, by_test}
use Rattle.words.specs.Below.{all_below, below, and_left}
use Rattle.words.proofs.Tests.{both}
use Rattle.octets.specs.Octets.{be32}
use Rattle.hall.specs.Seats.{is_present, has_ssrc, seat_of, finds}
use Rattle.identities.specs.Identity.{octets_of, name_at, same, has_name, seat_named}
use Rattle.desk_octets.specs.Form.{hall_at, names_at, hall_fits, names_fit}
use Rattle.seat_octets.specs.Layout.{settings_in}
use Rattle.seats_test.specs.Seats.{name_sound, taken_sound, free_sound, seat_sound, seats_sound}
use Rattle.seats_test.specs.Seats as test
use Rattle.desk_octets.proofs.Tests.{together, below_same}
use Rattle.desk_octets.proofs.InOctets.{present_is, flags_are, highest_is, ssrc_is, settings_are}
use Rattle.desk_octets.proofs.Facts.{fits_length}
use Rattle.identities.proofs.Same.{same_self}
use Rattle.seats_test.specs.Seated.{taken_at, ssrc_in_octets, name_length_at, identity_start, has_ssrc_of, has_name_of, ssrc_first}
use Rattle.seats_test.specs.Seated.{name_first}
use Rattle.seats_test.specs.Seated.{zeros_behind}
use Rattle.seats_test.specs.Seated.{taken_fits}
use Rattle.seats_test.specs.Seated.{free_fits, seat_fits, seats_fit}
use Rattle.identity_octets.specs.Identity.{same_octets}
use Rattle.seats_test.proofs.Laws.{finds-lowest, allowed_by_least, flags_zero}
use Rattle.seats_test.proofs.Names.{octets-length, name_sound_lem, names_same}

own_is : (s : List ℕ) → be32 s settings_start ≡ (hall_at s).settings.ssrc
unfolding hall_at settings_in
own_is s = refl

-- the searches, for octets whose lengths fit
module _ (s : List ℕ) (hall : hall_fits s ≡ true) (fits : names_fit s ≡ true) where
  len : (seat : ℕ) → seat < 16 → name_length_at s seat ≤ 62
  len = fits_length s fits

  ssrc_same : (x t : ℕ) → t < 16 → has_ssrc_of s x t ≡ has_ssrc (hall_at s) x t
  unfolding has_ssrc_of
  ssrc_same x t b = rw (present_is s t b, ssrc_is s t b)

  ssrc_first_lem : (seat : ℕ) → seat < 16 → taken_at s seat ≡ true →
      ssrc_first s seat ≡ finds (seat_of (hall_at s) (test.ssrc_at (hall_at s) seat)) seat
  unfolding ssrc_first seat_of
  ssrc_first_lem seat b t =
      let x = test.ssrc_at (hall_at s) seat in
      below_same (λ j. not (has_ssrc_of s (ssrc_in_octets s seat) j)) (λ j. not (has_ssrc (hall_at s) x j)) seat
      (λ j h. ap (λ (y : ℕ). not (has_ssrc_of s y j)) (ssrc_is s seat b) ∙ ap not (ssrc_same x j (omega arith)))
      ∙ sym (finds-lowest (has_ssrc (hall_at s) x) seat b
      (both (is_present (hall_at s) seat) (eqb x x) (sym (present_is s seat b) ∙ t) (eq-eqb x x refl)))

  module _ (all : (seat : ℕ) → seat < 16 → zeros_behind s seat ≡ true) where
    name-same : (u t : ℕ) → u < 16 → t < 16 → has_name_of s u t ≡ has_name (hall_at s) (names_at s) (octets_of (name_at (names_at s) u)) t
    unfolding has_name_of
    name-same u t d b =
        and_assoc (taken_at s t) (eqb (name_length_at s t) (name_length_at s u)) (same_octets s (identity_start t) (identity_start u))
        ∙ rw (present_is s t b, names_same s t u b d (len t b) (len u d) (all t b) (all u d))

    name_first_lem : (seat : ℕ) → seat < 16 → taken_at s seat ≡ true →
        name_first s seat ≡ finds (seat_named (hall_at s) (names_at s) (octets_of (name_at (names_at s) seat))) seat
    unfolding name_first seat_named
    name_first_lem seat b t =
        let o = octets_of (name_at (names_at s) seat) in
        below_same (λ j. not (has_name_of s seat j)) (λ j. not (has_name (hall_at s) (names_at s) o j)) seat
        (λ j h. ap not (name-same seat j b (omega arith)))
        ∙ sym (finds-lowest (has_name (hall_at s) (names_at s) o) seat b
        (both (is_present (hall_at s) seat) (same o o) (sym (present_is s seat b) ∙ t) (same_self o)))

    taken-same : (seat : ℕ) → seat < 16 → taken_at s seat ≡ true → taken_fits s seat ≡ taken_sound (hall_at s) (names_at s) seat
    unfolding taken_fits taken_sound
    taken-same seat b t =
        rw (
          ssrc_first_lem seat b t,
          name_first_lem seat b t,
          allowed_by_least (name_length_at s seat) (octets_of (name_at (names_at s) seat)) (sym (octets-length s seat b (len seat b)))
              (len seat b),
          ssrc_is s seat b,
          own_is s,
        )

    free_same : (seat : ℕ) → seat < 16 → free_fits s seat ≡ free_sound (hall_at s) (names_at s) seat
    unfolding free_fits free_sound
    free_same seat b =
        rw (ssrc_is s seat b, highest_is s seat b, flags_zero s hall seat b, flags_are s seat b, octets-length s seat b (len seat b))

    seat_same : (seat : ℕ) → seat < 16 → seat_fits s seat ≡ seat_sound (hall_at s) (names_at s) seat
    unfolding seat_fits seat_sound
    seat_same seat b =
        ap (λ (x : Bool). x && (when taken_at s seat then taken_fits s seat else free_fits s seat)) (name_sound_lem s seat b (len seat b))
        ∙ ap (λ (x : Bool). name_sound (name_at (names_at s) seat) && x)
        (by_test (taken_at s seat)
        (λ t. if_yes _ _ _ t ∙ taken-same seat b t ∙ sym (if_yes _ _ _ (sym (present_is s seat b) ∙ t)))
        (λ t. if_no _ _ _ t ∙ free_same seat b ∙ sym (if_no _ _ _ (sym (present_is s seat b) ∙ t))))

  all_fit_lem : all_below (seat_fits s) 16 ≡ true → (seat : ℕ) → seat < 16 → zeros_behind s seat ≡ true
  unfolding seat_fits
  all_fit_lem q seat b =
      and_left (zeros_behind s seat) (when taken_at s seat then taken_fits s seat else free_fits s seat) (below (seat_fits s) 16 q seat b)

  all_sound : all_below (seat_sound (hall_at s) (names_at s)) 16 ≡ true → (seat : ℕ) → seat < 16 → zeros_behind s seat ≡ true
  unfolding seat_sound
  all_sound q seat b =
      name_sound_lem s seat b (len seat b)
      ∙ and_left (name_sound (name_at (names_at s) seat))
      (when is_present (hall_at s) seat then taken_sound (hall_at s) (names_at s) seat else free_sound (hall_at s) (names_at s) seat)
      (below (seat_sound (hall_at s) (names_at s)) 16 q seat b)

  each_same : all_below (seat_fits s) 16 ≡ all_below (seat_sound (hall_at s) (names_at s)) 16
  each_same =
      together (all_below (seat_fits s) 16) (all_below (seat_sound (hall_at s) (names_at s)) 16)
      (λ q. sym (below_same (seat_fits s) (seat_sound (hall_at s) (names_at s)) 16 (seat_same (all_fit_lem q))) ∙ q)
      (λ q. below_same (seat_fits s) (seat_sound (hall_at s) (names_at s)) 16 (seat_same (all_sound q)) ∙ q)

  pub seats_same : seats_fit s ≡ seats_sound (hall_at s) (names_at s)
  unfolding seats_fit seats_sound
  seats_same = rw (settings_are s, each_same)
