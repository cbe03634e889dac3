-- A desk that steps can reach has octets in the form; they stand for it, and no others do. Assumes nothing.
use Rattle.desk_octets.specs.Places.{sequence_place, identities_column}
use Prim.Native.Nat.{ℕ, ◌+◌, ◌*◌, ◌<◌}
use mathlib.Core.Path.{◌≡◌, refl, ap, sym, ◌∙◌}
use mathlib.Core.Bool.{true}
use mathlib.Core.List.{List, [], ◌∷◌}
use lib.ListN.{length}
use Rattle.octets.specs.Octets.{Octets, nth_octet}
use Rattle.words.specs.Below.{and_left, and_right}
use Rattle.hall.specs.declared.Settings.{Settings}
use Rattle.hall.specs.Seats.{in_range}
use Rattle.identities.specs.Identity.{name_at, no_name}
use Rattle.events.specs.declared.Desk.{Desk}
use Rattle.history.specs.Doing.{Doing, made, after, after_all, just_made}
use Rattle.reach.specs.Sound.{Sound}
use Rattle.reach.proofs.Reach.{sound_fresh, sound_kept}
use Rattle.desk_octets.specs.Form.{core_at, entries_at, bools_at, octets_at, words_at, seat_flags_at, hall_at, name_in, names_at, canonical}
use Rattle.desk_octets.specs.Columns.{column}
use Rattle.desk_octets.proofs.Columns.{length-column, get_d_column}
use Rattle.desk_octets_laws.specs.Forms.{Back}
use Rattle.desk_octets_laws.proofs.Fits.{back}
use Rattle.desk_octets.proofs.Forth.{forth}
use Rattle.desk_test.specs.Lent.{is_sound}
use Rattle.desk_test_laws.specs.Typed.{Typed}
use Rattle.desk_test_laws.proofs.Sound.{sound_test, test_sound}
use Rattle.desk_test.specs.Lent.{formed}
use Rattle.desk_making.specs.Making.{in_octets, settable}
use Rattle.desk_test.proofs.Desks.{fits}
use Rattle.desk_making.proofs.Making.{octets_hold}
use Rattle.floor_laws.specs.Kept.{desk_at, octets_for, Holds, DoingFits, AllFit, Settable, ReachedHasOctets, OnlyItsOctets}
use Rattle.floor_laws.proofs.Numbers.{NarrowDesk, narrow_made, narrow_kept, desk-octets, half_small, narrow_at}
use Rattle.seat_octets.specs.Layout.{SettingsFit}

-- the desk that octets stand for has columns of the right length, and a sequence number of 16 bits
module _ (s : List ℕ) where
  sixty_two : (seat : ℕ) → seat < 16 → length (name_at (names_at s) seat).octets ≡ 62
  unfolding names_at name_in
  sixty_two seat b =
      rw (get_d_column (name_in s) 0 16 seat no_name b) (length-column (nth_octet s) (identities_column + 62 * (0 + seat)) 62)

  typed : Octets s → Typed (desk_at s)
  unfolding core_at hall_at names_at entries_at bools_at octets_at words_at seat_flags_at column
  typed o =
      record {
        seats = record { columns = (refl, refl, refl, refl, refl); octets = sixty_two };
        places = refl;
        sequence = half_small s o sequence_place;
      }

  passes : formed s ≡ true → is_sound (core_at s) (hall_at s) (names_at s) ≡ true
  unfolding formed
  passes q = and_right (canonical s) (is_sound (core_at s) (hall_at s) (names_at s)) q

-- a desk that keeps what every desk keeps that steps can reach, each number of it in its place
pub record Right (d : Desk) : Type 0 where
  pub sound : Sound d
  pub narrow : NarrowDesk d

-- a desk in lent octets is such a one
pub right_at : (s : List ℕ) → Octets s → formed s ≡ true → Right (desk_at s)
right_at s o q = record { sound = sound_test (desk_at s) (typed s o) (passes s q); narrow = narrow_at s o }

-- so is a fresh one, and whatever does keeps it so
narrow_settings : (g : Settings) → Settable g → SettingsFit g
unfolding settable
narrow_settings g k = octets_hold g (and_left (in_octets g) (in_range g) k.0) k.1

pub in_range_lem : (g : Settings) → Settable g → in_range g ≡ true
unfolding settable
in_range_lem g k = and_right (in_octets g) (in_range g) k.0

pub right_made : (g : Settings) → Settable g → Right (made g)
right_made g k = record { sound = sound_fresh (made g) (just_made g (in_range_lem g k)); narrow = narrow_made g (narrow_settings g k) }

pub right_kept : (d : Desk) (x : Doing) → DoingFits x → Right d → Right (after d x)
right_kept d x w k = record { sound = sound_kept d x k.sound; narrow = narrow_kept d x w k.narrow }

pub right_run : (d : Desk) (xs : List Doing) → AllFit xs → Right d → Right (after_all d xs)
right_run d [] w k = k
right_run d (x ∷ xs) w k = right_run (after d x) xs w.1 (right_kept d x w.0 k)

-- and it has octets in the form
module _ (d : Desk) (k : Right d) where
  its_back : Back d.core d.hall d.names
  its_back =
      back d.core d.hall d.names
      (record { line = k.sound.core.line.behind; columns = k.sound.seats.columns; behind = k.sound.seats.behind })

  its_form : formed (octets_for d) ≡ true
  unfolding formed
  its_form = rw (its_back.holds, its_back.stands.core, its_back.stands.hall, its_back.stands.names) (test_sound d k.sound)

  its_desk : desk_at (octets_for d) ≡ d
  its_desk = rw (its_back.stands.core, its_back.stands.hall, its_back.stands.names)

  pub has-octets : Holds (octets_for d) d
  has-octets = record { octets = desk-octets d k.sound k.narrow; in_form = its_form; stands = its_desk }

pub reached_has_octets : ReachedHasOctets
reached_has_octets g k xs w = has-octets (after_all (made g) xs) (right_run (made g) xs w (right_made g k))

pub only_its_octets : OnlyItsOctets
only_its_octets s d k = sym (forth s k.octets (fits s k.in_form)) ∙ ap octets_for k.stands
