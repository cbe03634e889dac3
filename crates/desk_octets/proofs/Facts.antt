-- What octets that hold what the table says have, taken apart once. Assumes nothing.
use Prim.Native.Nat.{ℕ, ◌+◌, ◌<◌, ◌≤◌}
use mathlib.Core.Path.{◌≡◌}
use mathlib.Core.Bool.{true}
use mathlib.Core.List.{List}
use native.Mathlib.Omega.{arith}
use lib.Dec.{leb}
use lib.ListN.{length, get_or}
use mir.Syntax.{w8}
use mir.Val.{Fits}
use borrow.Author.Tests.{leb-true}
use Rattle.words.specs.Below.{below}
use Rattle.std.proofs.lemmas.Bool.Decides.{nat_tests}
use Rattle.octets.specs.Octets.{be16, Octets, nth_octet}
use Rattle.line.specs.Line.{entry_of}
use Rattle.seat_octets.specs.Layout.{flags_top, unused_zero}
use Rattle.desk_octets.specs.Places.{desk_size, phase_place, timers_place, holder_place, held_at_place, cause_place, count_place}
use Rattle.desk_octets.specs.Places.{count_zero}
use Rattle.desk_octets.specs.Places.{waiting_zero, priorities_zero, taken_column, flags_column, flags_zeros, settings_start, settings_end}
use Rattle.desk_octets.specs.Places.{lengths_column}
use Rattle.desk_octets.specs.Form.{up_to, phase_fits, letters_fit, core_fits, hall_fits, names_fit, canonical}

-- what is lent is octets
pub octets_lent : (d : List ℕ) → ((i : ℕ) → Fits w8 (get_or d i 0)) → Octets d
octets_lent d f i = omega (arith, f i)

-- an octet of a column that is at most so much
pub up_to_lem : (top : ℕ) (s : List ℕ) (at n : ℕ) → up_to top s at n ≡ true → (i : ℕ) → i < n → nth_octet s (at + i) ≤ top
unfolding up_to
up_to_lem top s at n e i b = leb-true (nth_octet s (at + i)) top (below (λ k. leb (nth_octet s (at + k)) top) n e i b)

-- the whole
module _ (s : List ℕ) (fits : canonical s ≡ true) where
  pub fits_whole : length s ≡ desk_size
  unfolding canonical
  fits_whole = grind (arith, nat_tests)

  pub fits_room : desk_size ≤ length s
  fits_room = omega (arith, fits_whole)

  pub fits-letters : letters_fit s ≡ true
  unfolding canonical
  fits-letters = grind (arith, nat_tests)

  pub fits_core : core_fits s ≡ true
  unfolding canonical
  fits_core = grind (arith, nat_tests)

  pub fits_hall : hall_fits s ≡ true
  unfolding canonical
  fits_hall = grind (arith, nat_tests)

  pub fits_names : names_fit s ≡ true
  unfolding canonical
  fits_names = grind (arith, nat_tests)

-- the parts of the whole, as grind applies them
pub ruleset parts = (fits_room, fits_core, fits_hall, fits_names)

-- the floor and the line
pub record CoreFacts (s : List ℕ) : Type 0 where
  pub phase : phase_fits (nth_octet s phase_place) (nth_octet s timers_place)
      (entry_of (nth_octet s holder_place) (nth_octet s held_at_place))
      (be16 s cause_place) ≡ true
  pub few : nth_octet s count_place ≤ 15
  pub behind_count : nth_octet s count_zero ≡ 0
  pub behind-waiting : nth_octet s waiting_zero ≡ 0
  pub behind_priorities : nth_octet s priorities_zero ≡ 0

pub core_facts : (s : List ℕ) → core_fits s ≡ true → CoreFacts s
unfolding core_fits
core_facts s e =
    record {
      phase = grind (arith, nat_tests);
      few = grind (arith, nat_tests);
      behind_count = grind (arith, nat_tests);
      behind-waiting = grind (arith, nat_tests);
      behind_priorities = grind (arith, nat_tests);
    }

-- the seats
pub record HallFacts (s : List ℕ) : Type 0 where
  pub taken : up_to 1 s taken_column 16 ≡ true
  pub flags : up_to flags_top s flags_column 16 ≡ true
  pub behind_flags : up_to 0 s flags_zeros 16 ≡ true
  pub settings_unused : unused_zero s settings_start ≡ true
  pub behind-settings : up_to 0 s settings_end 4 ≡ true

pub hall_facts : (s : List ℕ) → hall_fits s ≡ true → HallFacts s
unfolding hall_fits
hall_facts s e =
    record {
      taken = grind (arith, nat_tests);
      flags = grind (arith, nat_tests);
      behind_flags = grind (arith, nat_tests);
      settings_unused = grind (arith, nat_tests);
      behind-settings = grind (arith, nat_tests);
    }

-- the identities
pub fits_length : (s : List ℕ) → names_fit s ≡ true → (seat : ℕ) → seat < 16 → nth_octet s (lengths_column + seat) ≤ 62
unfolding names_fit
fits_length s q seat b = up_to_lem 62 s lengths_column 16 q seat b
