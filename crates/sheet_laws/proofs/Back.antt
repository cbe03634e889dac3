-- A saved sheet loads. Assumes nothing.
use Prim.Native.Nat.{ℕ, zero, suc, ◌≤◌}
use native.Mathlib.Omega.{arith}
use mathlib.Core.Bool.{true}
use mathlib.Core.List.{List}
use mathlib.Core.Path.{◌≡◌, refl, ap, ◌∙◌}
use lib.ListN.{length}
use Rattle.words.specs.Choice.{when◌then◌else◌, by_test}
use Rattle.hall.specs.declared.Settings.{Settings}
use Rattle.hall.specs.declared.Hall.{Hall}
use Rattle.hall.specs.Seats.{in_range, empty_hall, is_present}
use Rattle.identities.specs.declared.Names.{Names}
use Rattle.identities.specs.Identity.{no_names}
use Rattle.sheet.specs.Layout.{Seat, seats_from, seats_of, sheet, sheet_of}
use Rattle.sheet.specs.Framing.{seat_count}
use Rattle.sheet.proofs.Frames.{frames}
use Rattle.std.proofs.Common.{Option, Result, Ok, Err, IsOk}
use Rattle.events.specs.declared.Desk.{Desk}
use Rattle.sheet.specs.declared.Refusal.{Refusal}
use Rattle.loading.specs.Loading.{read_seats, join_all, seat_all, loading}
use Rattle.loading.proofs.Loads.{loads_framed, settles}
use Rattle.reach.proofs.Reach.{sound_reached}
use Rattle.sheet_laws.specs.Sheets.{IsDesk, SavedLoads, SavedFromAny}
use Rattle.sheet_laws.proofs.Read.{framed_sheet, zeros_read, settings_read, seats_again}
use Rattle.sheet_laws.proofs.Rows.{row-starts, row_seats}
use Rattle.sheet_laws.proofs.Joins.{Filled, filled, all_seated}
use Rattle.sheet_laws.proofs.Kept.{kept, fine}
use Rattle.sheet_laws.proofs.Saved.{level_0, written}

-- a sheet of at most 16 seats, its settings in range, its level 0, loads as its seats join
loads_sheet : (zs : List Seat) (st : Settings) → length zs ≤ 16 → in_range st ≡ true → st.normal ≡ 0 →
    loading (sheet zs st) ≡ join_all (empty_hall st) no_names zs
loads_sheet zs st few r e =
    let s = sheet zs st in
    loads_framed s (frames s (framed_sheet zs st few))
    ∙ settles s (ap in_range (settings_read zs st) ∙ r) (zeros_read zs st e)
    ∙ ap (λ (t : Settings). seat_all (empty_hall t) no_names (read_seats (seat_count s) s 0)) (settings_read zs st)
    ∙ ap (λ (x : Option (List Seat)). seat_all (empty_hall st) no_names x) (seats_again zs st)

-- a desk that is filled is the desk of the sheet
pub desk_of : (st : Settings) (zs : List Seat) (d : Desk) → length zs ≤ 16 → Filled st zs d → IsDesk d zs st
desk_of st zs d few f =
    record {
      is_fresh = ap (λ (x : Desk). x.core) f.is;
      settings = f.settings;
      seats = row_seats d.hall d.names zs few f.row;
      numbered = f.row.present;
    }

empty-settings : (st : Settings) → (empty_hall st).settings ≡ st
unfolding empty_hall
empty-settings st = refl

-- what comes of an empty hall that all of them join
pub joined : (zs : List Seat) (st : Settings) (d : Desk) → length zs ≤ 16 → join_all (empty_hall st) no_names zs ≡ Ok d → IsDesk d zs st
joined zs st d few a =
    desk_of st zs d few
    (filled st zs few (length zs) 0 (empty_hall st) no_names d (omega arith) (row-starts st zs) (empty-settings st) a)

pub few_from : (h : Hall) (ns : Names) (n s : ℕ) → length (seats_from h ns n s) ≤ n
unfolding when◌then◌else◌
few_from h ns zero s = omega arith
few_from h ns (suc n) s =
    let k : length (seats_from h ns n (suc s)) ≤ n = few_from h ns n (suc s) in
    by_test (is_present h s) (λ e. rw e (omega arith)) (λ e. rw e (omega arith))

few_seats : (h : Hall) (ns : Names) → length (seats_of h ns) ≤ 16
unfolding seats_of
few_seats h ns = few_from h ns 16 0

-- the desk that all of them were seated at
desk_in : (r : Result Desk Refusal) → IsOk r → (d : Desk) × (r ≡ Ok d)
desk_in (Ok d) e = (d, refl)
desk_in (Err r) e = cc

pub saved_loads : SavedLoads
unfolding sheet_of
saved_loads h ns room r z =
    let zs = seats_of h ns in
    let st = h.settings in
    let k = kept h ns r in
    let few : length zs ≤ 16 = few_seats h ns in
    let d =
    desk_in (join_all (empty_hall st) no_names zs)
    (all_seated st zs few (length zs) 0 (empty_hall st) no_names (omega arith) (row-starts st zs) (empty-settings st) (fine h ns k)) in
    record {
      desk = d.0;
      accepted = ap loading (written h ns room z) ∙ loads_sheet zs st few k.range (level_0 h ns room z) ∙ d.1;
      is = joined zs st d.0 few d.1;
    }

pub saved_from_any : SavedFromAny
saved_from_any start f xs room z = saved_loads _ _ room (sound_reached start f xs).seats z
