-- A taken seat of octets that pass the test has an identity of 1 to 62 octets. Assumes nothing.
use Prim.Native.Nat.{ℕ, ◌<◌}
use native.Mathlib.Omega.{arith}
use mathlib.Core.Bool.{true, not, ◌&&◌}
use mathlib.Core.Path.{◌≡◌, sym, ◌∙◌}
use lib.Dec.{eqb, leb}
use lib.ListN.{length}
use borrow.Author.Tests.{leb-true}
use Rattle.words.specs.Choice.{when◌then◌else◌, if_yes}
use Rattle.words.specs.Below.{all_below, and_left, and_right, below}
use Rattle.hall.specs.declared.Hall.{Hall}
use Rattle.hall.specs.Seats.{is_present, seat_of, in_range, finds}
use Rattle.identities.specs.declared.Names.{Names}
use Rattle.identities.specs.Identity.{octets_of, name_at, seat_named, length_allowed}
use Rattle.sheet.specs.Layout.{seat_at}
use Rattle.sheet.proofs.Sizes.{length_seat}
use Rattle.desk_octets.specs.Form.{canonical, core_at, hall_at, names_at}
use Rattle.core_test.specs.Test.{core_sound}
use Rattle.seats_test.specs.Seats.{name_sound, ssrc_at, taken_sound, free_sound, seat_sound, seats_sound}
use Rattle.desk_test.specs.Lent.{is_sound, formed}
use Rattle.seat_looking_laws.specs.Lengths.{SeatLong}

module _ (h : Hall) (ns : Names) (q : seats_sound h ns ≡ true) (s : ℕ) (w : s < 16) (e : is_present h s ≡ true) where
  sound : seat_sound h ns s ≡ true
  unfolding seats_sound
  sound = below (seat_sound h ns) 16 (and_right (in_range h.settings) (all_below (seat_sound h ns) 16) q) s w

  taken : taken_sound h ns s ≡ true
  unfolding seat_sound
  taken =
      sym (if_yes (is_present h s) (taken_sound h ns s) (free_sound h ns s) e)
      ∙ and_right (name_sound (name_at ns s)) (when is_present h s then taken_sound h ns s else free_sound h ns s) sound

  allowed : length_allowed (octets_of (name_at ns s)) ≡ true
  unfolding taken_sound
  allowed =
      let o = octets_of (name_at ns s) in
      let own = not (eqb (ssrc_at h s) h.settings.ssrc) in
      let found = finds (seat_of h (ssrc_at h s)) s in
      let named = finds (seat_named h ns o) s in
      and_right (own && found) (length_allowed o) (and_left (own && found && length_allowed o) named taken)

pub seat_long : SeatLong
unfolding formed is_sound length_allowed
seat_long d s f w e =
    let h = hall_at d in
    let ns = names_at d in
    let o = octets_of (name_at ns s) in
    let q = and_left (seats_sound h ns) (core_sound h (core_at d)) (and_right (canonical d) (is_sound (core_at d) h ns) f) in
    let a = allowed h ns q s w e in
    let one = leb-true 1 (length o) (and_left (leb 1 (length o)) (leb (length o) 62) a) in
    let most = leb-true (length o) 62 (and_right (leb 1 (length o)) (leb (length o) 62) a) in
    (omega (arith, length_seat (seat_at h ns s), one), omega (arith, length_seat (seat_at h ns s), most))
