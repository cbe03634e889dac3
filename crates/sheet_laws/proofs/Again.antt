-- An accepted sheet, loaded and saved, is the same octets. Assumes nothing.
use Prim.Native.Nat.{ℕ, ◌+◌, ◌≤◌}
use native.Mathlib.Omega.{arith}
use mathlib.Core.Bool.{true}
use mathlib.Core.List.{List, ◌++◌}
use mathlib.Core.Path.{◌≡◌, refl, sym, ap, ◌∙◌}
use lib.Dec.{eqb}
use lib.ListN.{length, take, drop, take-append-drop}
use lib.Seq.{length-take-le, drop-drop}
use borrow.Author.Tests.{eqb-true}
use Rattle.words.specs.Choice.{by_test}
use Rattle.words.proofs.Tests.{and_both}
use Rattle.octets.specs.Octets.{part, Octets}
use Rattle.hall.specs.declared.Settings.{Settings}
use Rattle.hall.specs.Seats.{in_range, empty_hall}
use Rattle.identities.specs.Identity.{no_names}
use Rattle.seat_octets.specs.Layout.{settings_size, settings_octets, unused_zero, zeros_fit}
use Rattle.seat_octets.proofs.SettingsLaws.{settings_forth, zeros_say}
use Rattle.sheet.specs.Layout.{Seat, tail_size, seats_octets, trailer, sheet, sheet_of}
use Rattle.sheet.specs.Framing.{settings_place, trailer_place, settings_offset, seat_count, framing}
use Rattle.sheet.proofs.Frames.{Framed, framed}
use Rattle.std.proofs.Common.{Option, Some, None, Result, Ok, Err}
use Rattle.events.specs.declared.Desk.{Desk}
use Rattle.sheet.specs.declared.Refusal.{Refusal}
use Rattle.sheet.specs.declared.Refusal.TheVariants.{OutsideRange, SeatAtFault}
use Rattle.loading.specs.Loading.{settings_on, read_seats, join_all, seat_all, settled, loading}
use Rattle.loading.proofs.Loads.{loads_framed, loads_refused, settles_range, settles_zeros, settles}
use Rattle.sheet_laws.specs.Sheets.{IsDesk, LoadsAtLevel0, WrittenBack}
use Rattle.sheet_laws.proofs.Read.{sheet-ends}
use Rattle.sheet_laws.proofs.Printed.{seats_back, trailer_back}
use Rattle.sheet_laws.proofs.Back.{joined}
use Rattle.sheet_laws.proofs.Saved.{saves, written}

-- what every check found
pub record Sound (s : List ℕ) : Type 0 where
  pub frame : Framed s
  pub range : in_range (settings_on s) ≡ true
  pub zeros : zeros_fit s (settings_place s) ≡ true
  pub goes : loading s ≡ settled s

module _ (s : List ℕ) (d : Desk) (a : loading s ≡ Ok d) where
  not_so : {P : Type 0} (r : Refusal) → loading s ≡ Err r → P
  not_so r e = let q : Err r ≡ Ok d = sym e ∙ a in cc

  sound : Sound s
  sound = by_frame (framing s) refl
    where
      by_frame : (f : Result (Unit {0}) Refusal) → framing s ≡ f → Sound s
      by_frame (Err r) e = not_so r (loads_refused s r e)
      by_frame (Ok u) e =
          let goes = loads_framed s e in
          by_test (in_range (settings_on s))
          (λ r.
          by_test (zeros_fit s (settings_place s))
          (λ z. record { frame = framed s e; range = r; zeros = z; goes = goes })
          (λ z. not_so OutsideRange (goes ∙ settles_zeros s r z)))
          (λ r. not_so OutsideRange (goes ∙ settles_range s r))

  abbrev st : Settings
  st = settings_on s

  seated : loading s ≡ seat_all (empty_hall st) no_names (read_seats (seat_count s) s 0)
  seated = let k = sound in k.goes ∙ settles s k.range k.zeros

  -- the seats that were read, and their desk
  pub record Found : Type 0 where
    pub seats : List Seat
    pub read : read_seats (seat_count s) s 0 ≡ Some seats
    pub is : loading s ≡ join_all (empty_hall st) no_names seats

  find : (x : Option (List Seat)) → read_seats (seat_count s) s 0 ≡ x → Found
  find (Some zs) e = record { seats = zs; read = e; is = seated ∙ ap (seat_all (empty_hall st) no_names) e }
  find None e = not_so SeatAtFault (seated ∙ ap (seat_all (empty_hall st) no_names) e)

  found : Found
  found = find (read_seats (seat_count s) s 0) refl

  -- the two zeros: the level, and the octet that no setting has
  zeros_apart : (eqb (settings_on s).normal 0 ≡ true) × (unused_zero s (settings_place s) ≡ true)
  zeros_apart =
      and_both (eqb (settings_on s).normal 0) (unused_zero s (settings_place s)) (sym (zeros_say s (settings_place s)) ∙ sound.zeros)

  module _ (octets : Octets s) where
    -- the settings and the trailer are the octets behind the seats
    tail_again : (at count : ℕ) → at ≡ settings_offset s → count ≡ seat_count s
        → settings_octets (settings_on s) ++ trailer at count ≡ drop (settings_place s) s
    unfolding part
    tail_again at count e f =
        let k = sound in
        let p = settings_place s in
        let long : tail_size ≤ length s = k.frame.long in
        let q : trailer_place s ≡ p + settings_size = omega arith in
        ap (λ (x : List ℕ). x ++ trailer at count) (settings_forth s p octets (omega arith) zeros_apart.1)
        ∙ ap (λ (x : List ℕ). take settings_size (drop p s) ++ x)
        (trailer_back s octets k.frame at count e f ∙ ap (λ (m : ℕ). drop m s) q ∙ sym (drop-drop settings_size p s))
        ∙ take-append-drop settings_size (drop p s)

    sheet_again : sheet found.seats (settings_on s) ≡ s
    sheet_again =
        let k = sound in
        let zs = found.seats in
        let p = settings_place s in
        let long : tail_size ≤ length s = k.frame.long in
        let b = seats_back s octets long (seat_count s) 0 zs found.read in
        let o : seats_octets zs ≡ take p s = b.written in
        let l : length (seats_octets zs) ≡ p = ap length o ∙ length-take-le p s (omega arith) in
        let h : length (seats_octets zs) ≡ settings_offset s = omega (arith, l, k.frame.placed) in
        sheet-ends zs st ∙ ap (λ (x : List ℕ). x ++ (settings_octets st ++ trailer (length (seats_octets zs)) (length zs))) o
        ∙ ap (λ (x : List ℕ). take p s ++ x) (tail_again (length (seats_octets zs)) (length zs) h b.count)
        ∙ take-append-drop p s

    few : length found.seats ≤ 16
    few =
        let b = seats_back s octets sound.frame.long (seat_count s) 0 found.seats found.read in
        let k : seat_count s ≤ 16 = sound.frame.few in
        omega (arith, b.count)

    desk : IsDesk d found.seats (settings_on s)
    desk = joined found.seats st d few (sym found.is ∙ a)

    back : sheet_of d.hall d.names ≡ s
    unfolding sheet_of
    back =
        ap (λ (xs : List Seat). sheet xs d.hall.settings) desk.seats ∙ ap (sheet found.seats) desk.settings ∙ sheet_again

    level : d.hall.settings.normal ≡ 0
    level = rw desk.settings (eqb-true (settings_on s).normal 0 zeros_apart.0)

pub loads_at_level_0 : LoadsAtLevel0
loads_at_level_0 s d octets a = level s d a octets

pub written_back : WrittenBack
written_back s room d octets a =
    let e = back s d a octets in
    record {
      done = λ l. saves d.hall d.names room (level s d a octets) (rw e l);
      octets = λ z. written d.hall d.names room z ∙ e;
    }
