-- A desk that is loaded is the fresh one with the sheet's settings that the sheet's seats joined, in octets in the form. Assumes nothing.
use Rattle.desk_octets.specs.Places.{desk_size}
use Prim.Native.Nat.{ℕ, zero, suc, ◌+◌, ◌≤◌}
use native.Mathlib.Omega.{arith}
use mathlib.Core.Path.{◌≡◌, refl, sym, subst}
use mathlib.Core.Bool.{true, not, ◌||◌}
use mathlib.Core.List.{List, [], ◌∷◌}
use Rattle.std.proofs.Common.{Option, Some, None, Result, Ok, Err}
use Rattle.std.specs.Option.{option_map}
use Rattle.std.specs.Result.{result_and}
use lib.Dec.{eqb}
use lib.IntN.{ℤ}
use lib.ListN.{length, take, drop}
use borrow.Author.Tests.{le-leb, not-false}
use Rattle.octets.specs.Octets.{part, Octets}
use Rattle.hall.specs.declared.Hall.{Hall}
use Rattle.identities.specs.declared.Names.{Names}
use Rattle.hall.specs.Seats.{in_range, empty_hall}
use Rattle.identities.specs.Identity.{no_names}
use Rattle.joining.specs.Join.{join}
use Rattle.words.specs.Choice.{when◌then◌else◌, by_if}
use Rattle.events.specs.declared.Desk.{Desk}
use Rattle.history.specs.Doing.{joins, made, does, after, after_all, Fresh, just_made, and_joined}
use Rattle.loading.specs.Loading.{loaded, if_seated, join_all, seat_all, settled, loading, who_is, read_seat, identity_length, after_seat}
use Rattle.loading.specs.Loading.{laid_out, read_seats, settings_on}
use Rattle.sheet.specs.declared.Refusal.{Refusal}
use Rattle.sheet.specs.declared.Refusal.TheVariants.{NotASheet, OtherForm, WrongPlaces, OutsideRange, SeatAtFault}
use Rattle.words.proofs.Tests.{clash, both, neither_left}
use Rattle.message.specs.Answers.{result}
use Rattle.signed.specs.Signed.{signed, Succeeds}
use Rattle.desk_making.proofs.Making.{held_in_octets}
use Rattle.desk_making.specs.Making.{in_octets, settable, desk_written, loaded_into, load_on}
use Rattle.floor.specs.Promises.{LoadPromise}
use Rattle.floor_laws.specs.Kept.{Holds, Fits, AllFit, Settable, desk_in, joins_of, seated_from, joins_on, LoadedInForm}
use Rattle.floor_laws.proofs.All.{all_take, all_drop, all_at, at_all}
use Rattle.floor_laws.proofs.Numbers.{Octet, word_small}
use Rattle.floor_laws.proofs.Desks.{Right, in_range_lem, right_made, right_run}
use Rattle.floor_laws.proofs.Steps.{holds_as}
use Rattle.floor_laws.proofs.Made.{Written, written_so}
use Rattle.sheet.specs.Layout.{Seat, seat_head}
use Rattle.sheet.specs.Framing.{settings_place, seat_count, framing}
use Rattle.seat_octets.specs.Layout.{zeros_fit, SettingsFit}
use Rattle.seat_octets.proofs.SettingsLaws.{settings_read_fit}

-- who sits down does so by join
if_seated_lem : (f : Option ℕ) (l : Result Desk Refusal) (d : Desk) → if_seated f l ≡ Ok d → l ≡ Ok d
if_seated_lem (Some s) l d q = q
if_seated_lem None l d q = cc

joins_so : (h : Hall) (ns : Names) (xs : List Seat) (d : Desk) → join_all h ns xs ≡ Ok d → d ≡ after_all (loaded h ns) (joins_of xs)
unfolding join_all does
joins_so h ns [] d q = cc
joins_so h ns (x ∷ xs) d q =
    let j = join h ns x.identity x.who in
    joins_so j.hall j.names xs d (if_seated_lem j.seat (join_all j.hall j.names xs) d q)

seats_so : (h : Hall) (ns : Names) (s : Option (List Seat)) (d : Desk) → seat_all h ns s ≡ Ok d →
    d ≡ after_all (loaded h ns) (seated_from s)
seats_so h ns (Some xs) d q = joins_so h ns xs d q
seats_so h ns None d q = cc

module _ (s : List ℕ) where
  abbrev IsLoaded : Result Desk Refusal → Type 0
  IsLoaded l = (d : Desk) → l ≡ Ok d → (in_range (settings_on s) ≡ true) × (d ≡ after_all (made (settings_on s)) (joins_on s))

  not-loaded : (r : Refusal) → IsLoaded (Err r)
  not-loaded r d q = cc

  settled_so : IsLoaded (settled s)
  settled_so =
      let a = not (in_range (settings_on s)) in
      let b = not (zeros_fit s (settings_place s)) in
      by_if IsLoaded (a || b) (λ _. not-loaded OutsideRange)
      (λ e d q. (
        not-false (in_range (settings_on s)) (neither_left a b e),
        seats_so (empty_hall (settings_on s)) no_names (read_seats (seat_count s) s 0) d q,
      ))

  loaded_so : IsLoaded (loading s)
  unfolding loading
  loaded_so = framed_so (framing s)
    where
      framed_so : (f : Result (Unit {0}) Refusal) → IsLoaded (result_and f (settled s))
      framed_so (Ok u) = settled_so
      framed_so (Err r) = not-loaded r

-- a sheet's numbers have their places in octets
module _ (s : List ℕ) (o : Octets s) where
  part-octets : (at n : ℕ) → Octets (part s at n)
  unfolding part
  part-octets at n =
      all_at Octet 0 (omega arith) (take n (drop at s)) (all_take Octet n (drop at s) (all_drop Octet at s (at_all Octet 0 s o)))

  seat_fits_lem : (at : ℕ) → Fits (read_seat s at).identity (read_seat s at).who
  unfolding read_seat who_is
  seat_fits_lem at = (part-octets (at + seat_head) (identity_length s at), word_small s o (at + 2), o (at + 1))

  infront-fits : (x : Seat) → Fits x.identity x.who → (o : Option (List Seat)) → AllFit (seated_from o) →
      AllFit (seated_from (option_map (λ (xs : List Seat). x ∷ xs) o))
  infront-fits x k (Some xs) w = (k, w)
  infront-fits x k None w = tt

  seats_fit_lem : (n at : ℕ) → AllFit (seated_from (read_seats n s at))
  unfolding read_seats
  seats_fit_lem zero at = by_if (λ (x : Option (List Seat)). AllFit (seated_from x)) (eqb at (settings_place s)) (λ _. tt) (λ _. tt)
  seats_fit_lem (suc n) at =
      by_if (λ (x : Option (List Seat)). AllFit (seated_from x)) (laid_out s at)
      (λ _. infront-fits (read_seat s at) (seat_fits_lem at) (read_seats n s (after_seat s at)) (seats_fit_lem n (after_seat s at)))
      (λ _. tt)

  settings_fit : in_range (settings_on s) ≡ true → Settable (settings_on s)
  unfolding settable
  settings_fit q =
      let g = settings_on s in
      let f : SettingsFit g = settings_read_fit s (settings_place s) o in
      (both (in_octets g) (in_range g) (held_in_octets g f) q, f.ssrc)

-- a sheet that was not refused loads as a desk
pub record LoadedDesk (sheet : List ℕ) : Type 0 where
  pub desk : Desk
  pub is : loading sheet ≡ Ok desk

loaded_of : (room sheet : List ℕ) (l : Result Desk Refusal) → loading sheet ≡ l → Succeeds (loaded_into room l).0 → LoadedDesk sheet
loaded_of room sheet (Ok d) e z = record { desk = d; is = e }
loaded_of room sheet (Err NotASheet) e z = clash z refl
loaded_of room sheet (Err OtherForm) e z = clash z refl
loaded_of room sheet (Err WrongPlaces) e z = clash z refl
loaded_of room sheet (Err OutsideRange) e z = clash z refl
loaded_of room sheet (Err SeatAtFault) e z = clash z refl

module _ (room sheet : List ℕ) (m : ℤ) (room' : List ℕ) (p : LoadPromise room sheet m room') (z : Succeeds m) (o : Octets sheet) where
  pub loaded_desk : LoadedDesk sheet
  loaded_desk = loaded_of room sheet (loading sheet) refl (subst (λ (w : ℤ × List ℕ). Succeeds w.0) p z)

  loaded-run : (in_range (settings_on sheet) ≡ true) × (loaded_desk.desk ≡ after_all (made (settings_on sheet)) (joins_on sheet))
  loaded-run = loaded_so sheet loaded_desk.desk loaded_desk.is

  its_settings : Settable (settings_on sheet)
  its_settings = settings_fit sheet o loaded-run.0

  its_joins : AllFit (joins_on sheet)
  its_joins = seats_fit_lem sheet o (seat_count sheet) 0

  pub loaded-stands : Holds (desk_in room') loaded_desk.desk
  loaded-stands =
      let d = loaded_desk.desk in
      let g = settings_on sheet in
      let r : Right d = rw loaded-run.1 (right_run (made g) (joins_on sheet) its_joins (right_made g its_settings)) in
      let h : Written d (load_on room sheet) = rw loaded_desk.is (written_so d room 0 0 (λ _. r)) in
      subst (λ (v : ℤ × List ℕ). Written d v) (sym p) h z

-- seats that join a fresh desk leave it fresh
joined-fresh : (d : Desk) → Fresh d → (xs : List Seat) → Fresh (after_all d (joins_of xs))
joined-fresh d f [] = f
joined-fresh d f (x ∷ xs) = joined-fresh (after d (joins x.identity x.who)) (and_joined d x.identity x.who f) xs

seated-fresh : (d : Desk) → Fresh d → (xs : Option (List Seat)) → Fresh (after_all d (seated_from xs))
seated-fresh d f (Some xs) = joined-fresh d f xs
seated-fresh d f None = f

pub loaded_in_form : LoadedInForm
loaded_in_form room sheet m room' p z o =
    record {
      settings = its_settings room sheet m room' p z o;
      fit = its_joins room sheet m room' p z o;
      is_fresh =
          seated-fresh (made (settings_on sheet))
          (just_made (settings_on sheet) (in_range_lem (settings_on sheet) (its_settings room sheet m room' p z o)))
          (read_seats (seat_count sheet) sheet 0);
      holds =
          holds_as (desk_in room') (loaded_desk room sheet m room' p z o).desk (after_all (made (settings_on sheet)) (joins_on sheet))
          (loaded-run room sheet m room' p z o).1
          (loaded-stands room sheet m room' p z o);
    }

-- an accepted sheet and enough room
pub loads : (room sheet : List ℕ) (d : Desk) → loading sheet ≡ Ok d → desk_size ≤ length room → (load_on room sheet).0 ≡ signed (result 0)
unfolding desk_written when◌then◌else◌
loads room sheet d z b = rw (z, le-leb desk_size (length room) b)
