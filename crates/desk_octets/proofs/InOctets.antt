-- What stands in the octets of a seat is what the hall has of it that they stand for. Assumes nothing.
use Prim.Native.Nat.{ℕ, ◌+◌, ◌*◌, ◌≤◌, ◌<◌}
use mathlib.Core.Path.{◌≡◌, refl, ap, sym, ◌∙◌}
use mathlib.Core.Bool.{false}
use mathlib.Core.List.{List}
use native.Mathlib.Nat.{zero-add}
use native.Mathlib.Omega.{arith}
use lib.ListN.{get_or, get_or-eq_default}
use Rattle.octets.specs.Octets.{be32, nth_octet}
use Rattle.hall.specs.Seats.{is_present, flags_at, no_flags}
use Rattle.seat_octets.specs.Layout.{flags_of}
use Rattle.desk_octets.specs.Places.{taken_column, ssrcs_column, highest_column, flags_column}
use Rattle.desk_octets.specs.Form.{bool_at, bools_at, octets_at, words_at, seat_flags_at, settings_at, hall_at}
use Rattle.desk_octets.proofs.Columns.{length-column, get_d_column}

module _ (s : List ℕ) (seat : ℕ) where
  pub present_is : seat < 16 → bool_at s (taken_column + seat) ≡ is_present (hall_at s) seat
  unfolding hall_at bools_at
  present_is b = sym (get_d_column (bool_at s) taken_column 16 seat false b)

  pub no_seat : 16 ≤ seat → is_present (hall_at s) seat ≡ false
  unfolding hall_at bools_at
  no_seat b = get_or-eq_default (bools_at s taken_column) false (omega (arith, length-column (bool_at s) taken_column 16))

  pub flags_are : seat < 16 → flags_of (nth_octet s (flags_column + seat)) ≡ flags_at (hall_at s) seat
  unfolding hall_at seat_flags_at
  flags_are b =
      sym (get_d_column (λ i. flags_of (nth_octet s (flags_column + i))) 0 16 seat no_flags b
      ∙ ap (λ (i : ℕ). flags_of (nth_octet s (flags_column + i))) (zero-add seat))

  pub highest_is : seat < 16 → nth_octet s (highest_column + seat) ≡ get_or (hall_at s).highest seat 0
  unfolding hall_at octets_at
  highest_is b = sym (get_d_column (nth_octet s) highest_column 16 seat 0 b)

  pub ssrc_is : seat < 16 → be32 s (ssrcs_column + 4 * seat) ≡ get_or (hall_at s).ssrcs seat 0
  unfolding hall_at words_at
  ssrc_is b =
      sym (get_d_column (λ i. be32 s (ssrcs_column + 4 * i)) 0 16 seat 0 b ∙ ap (λ (i : ℕ). be32 s (ssrcs_column + 4 * i)) (zero-add seat))

pub settings_are : (s : List ℕ) → settings_at s ≡ (hall_at s).settings
unfolding hall_at
settings_are s = refl
