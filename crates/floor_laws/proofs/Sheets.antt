-- What was loaded is saved octet for octet, and what was saved loads: over what `floor_save` and `floor_load` promise. Assumes nothing.
use Rattle.desk_octets.specs.Places.{desk_size}
use Prim.Native.Nat.{ℕ, ◌≤◌, ◌<◌}
use native.Mathlib.Omega.{arith}
use mathlib.Core.Path.{◌≡◌, ap, ◌∙◌, sym, subst}
use Rattle.std.proofs.Common.{Ok, IsOk}
use mathlib.Core.Bool.{true, false}
use mathlib.Core.List.{List}
use lib.ListN.{length, take}
use lib.IntN.{ℤ, pos, negsuc}
use lib.Dec.{eqb}
use Rattle.words.specs.Choice.{when◌then◌else◌, by_test}
use Rattle.hall.specs.declared.Hall.{Hall}
use Rattle.octets.specs.Octets.{over, Octets}
use Rattle.message.specs.Answers.{refused, result}
use Rattle.events.specs.declared.Desk.{Desk}
use Rattle.sheet.specs.Layout.{seats_of, sheet_of}
use Rattle.loading.specs.Loading.{loading}
use Rattle.saving.specs.Saving.{too_short, saving, written_by}
use Rattle.sheet_laws.specs.Sheets.{IsDesk, LoadsAs}
use Rattle.sheet_laws.proofs.Saved.{saves as saves-all, written as written_All}
use Rattle.sheet_laws.proofs.Back.{saved_loads}
use Rattle.sheet_laws.proofs.Again.{loads_at_level_0, written_back}
use Rattle.desk_octets.specs.Form.{hall_at, names_at}
use Rattle.desk_test.specs.Lent.{formed}
use Rattle.signed.specs.Signed.{signed, answers, is_done}
use Rattle.desk_looking.specs.Looking.{save_on}
use Rattle.floor.specs.Promises.{SavePromise, LoadPromise}
use Rattle.floor_laws.specs.Kept.{desk_in, desk_at, LoadedIsSaved, SavedIsLoaded, SaveAnswers48}
use Rattle.floor_laws.proofs.Desks.{right_at}
use Rattle.floor_laws.proofs.Made.{first_over}
use Rattle.floor_laws.proofs.Loaded.{loads, loaded_desk, loaded-stands}
use borrow.Author.Tests.{eqb-true, eqb-false, ltb-true, ltb-false}
use Rattle.saving.proofs.Saves.{saves_none, room_kept, saves_no_room, room_untouched, saves_whole, room_written}
use Rattle.identities.specs.declared.Names.{Names}

-- what is done is not refused, and a refusal has one number
not-refused : (m n : ℕ) → pos m ≡ negsuc n → ⊥
not-refused m n e = let z : ◌≡◌ {A = ℕ} 0 1 = cc in omega arith

one-refusal : (m n : ℕ) → negsuc m ≡ negsuc n → m ≡ n
one-refusal m n e = cc

-- what is saved, by cases
module _ (d room : List ℕ) where
  abbrev sheet : List ℕ
  sheet = sheet_of (hall_at d) (names_at d)

  abbrev level : ℕ
  level = (hall_at d).settings.normal

  saves : formed d ≡ true → level ≡ 0 → length sheet ≤ length room → save_on d room ≡ answers (result (length sheet)) (over room 0 sheet)
  unfolding when◌then◌else◌
  saves q e t = rw (q, saves_whole (hall_at d) (names_at d) room e t, room_written (hall_at d) (names_at d) room e t)

  saves_short : formed d ≡ true → level ≡ 0 → length room < length sheet → save_on d room ≡ answers (refused 13) room
  unfolding when◌then◌else◌
  saves_short q e t = rw (q, saves_no_room (hall_at d) (names_at d) room e t, room_untouched (hall_at d) (names_at d) room e t)

  saves_48 : formed d ≡ true → (level ≡ 0 → ⊥) → save_on d room ≡ answers (refused 48) room
  unfolding when◌then◌else◌
  saves_48 q e = rw (q, saves_none (hall_at d) (names_at d) room e, room_kept (hall_at d) (names_at d) room e)

  saves_not : formed d ≡ false → save_on d room ≡ answers (refused 20) room
  unfolding when◌then◌else◌
  saves_not q = rw q

  -- what was saved is the sheet of a desk in the form
  pub record Saved (n : ℕ) (room' : List ℕ) : Type 0 where
    pub in_form : formed d ≡ true
    pub level_0 : level ≡ 0
    pub octets : take n room' ≡ sheet

  no_number : (n m : ℕ) (room' : List ℕ) → ◌≡◌ {A = ℤ × List ℕ} (pos n, room') (negsuc m, room) → Saved n room'
  no_number n m room' p = absurd (not-refused n m (ap (λ (w : ℤ × List ℕ). w.0) p))

  whole : (n : ℕ) (room' : List ℕ) → formed d ≡ true → level ≡ 0 →
      ◌≡◌ {A = ℤ × List ℕ} (pos n, room') (pos (length sheet), over room 0 sheet) → Saved n room'
  whole n room' q z p =
      let e : pos n ≡ pos (length sheet) = ap (λ (w : ℤ × List ℕ). w.0) p in
      let l : n ≡ length sheet = cc in
      let r : room' ≡ over room 0 sheet = ap (λ (w : ℤ × List ℕ). w.1) p in
      record { in_form = q; level_0 = z; octets = rw (l, r) (first_over room sheet) }

  saved_so : (n : ℕ) (room' : List ℕ) → SavePromise d room (pos n) room' → Saved n room'
  saved_so n room' p =
      by_test (formed d)
      (λ q.
      by_test (eqb level 0)
      (λ b. let e = eqb-true level 0 b in
      by_test (too_short (hall_at d) (names_at d) room)
      (λ t. no_number n 12 room' (p ∙ saves_short q e (ltb-true (length room) (length sheet) t)))
      (λ t. whole n room' q e (p ∙ saves q e (ltb-false (length room) (length sheet) t))))
      (λ b. no_number n 47 room' (p ∙ saves_48 q (eqb-false level 0 b))))
      (λ q. no_number n 19 room' (p ∙ saves_not q))

-- at level 0 a room as long as the sheet has the sheet written into it
module _ (h : Hall) (ns : Names) (e : h.settings.normal ≡ 0) where
  its_room : IsOk (saving h ns (sheet_of h ns))
  its_room = saves-all h ns (sheet_of h ns) e (omega arith)

  its_sheet : written_by h ns (sheet_of h ns) ≡ sheet_of h ns
  its_sheet = written_All h ns (sheet_of h ns) its_room

sheet_back : (s : List ℕ) (d : Desk) → Octets s → loading s ≡ Ok d → sheet_of d.hall d.names ≡ s
sheet_back s d o a =
    let e = loads_at_level_0 s d o a in
    sym (its_sheet d.hall d.names e) ∙ (written_back s (sheet_of d.hall d.names) d o a).octets (its_room d.hall d.names e)

pub loaded_is_saved : LoadedIsSaved
loaded_is_saved desk s m desk' p z o room n room' q l =
    let d = desk_in desk' in
    let h = loaded-stands desk s m desk' p z o in
    let k = loaded_desk desk s m desk' p z o in
    let e : sheet d room ≡ s =
    ap (λ (x : Desk). sheet_of x.hall x.names) h.stands ∙ sheet_back s k.desk o k.is in
    let v : level d room ≡ 0 =
    ap (λ (x : Desk). x.hall.settings.normal) h.stands ∙ loads_at_level_0 s k.desk o k.is in
    let w : (n, room') ≡ answers (result (length s)) (over room 0 s) =
    q ∙ rw e at (saves d room h.in_form v (rw e l)) in
    (ap (λ (v : ℤ × List ℕ). v.0) w, ap (λ (v : ℤ × List ℕ). v.1) w)

module _ (d desk : List ℕ) (m : ℤ) (desk' : List ℕ) where
  -- what loading makes of the sheet is what the octets hold
  taken : (s : List ℕ) → s ≡ sheet_of (hall_at d) (names_at d) → LoadPromise desk s m desk' → Octets s → desk_size ≤ length desk →
      Octets d →
      formed d ≡ true → (hall_at d).settings.normal ≡ 0 →
      (m ≡ signed (result 0)) × IsDesk (desk_at (desk_in desk')) (seats_of (hall_at d) (names_at d)) (hall_at d).settings
  taken s e p o l k q v =
      let i : LoadsAs s (seats_of (hall_at d) (names_at d)) (hall_at d).settings =
      rw (e ∙ sym (its_sheet (hall_at d) (names_at d) v))
      (saved_loads (hall_at d) (names_at d) (sheet_of (hall_at d) (names_at d)) (right_at d k q).sound.seats
      (its_room (hall_at d) (names_at d) v)) in
      let z : m ≡ signed (result 0) = ap (λ (w : ℤ × List ℕ). w.0) p ∙ loads desk s i.desk i.accepted l in
      let h = loaded-stands desk s m desk' p (ap is_done z) o in
      let made = loaded_desk desk s m desk' p (ap is_done z) o in
      let both : Ok made.desk ≡ Ok i.desk = sym made.is ∙ i.accepted in
      let same : made.desk ≡ i.desk = cc in
      (z, subst (λ (x : Desk). IsDesk x (seats_of (hall_at d) (names_at d)) (hall_at d).settings) (sym (h.stands ∙ same)) i.is)

pub saved_is_loaded : SavedIsLoaded
saved_is_loaded d room n room' p k desk m desk' q o l =
    let w = saved_so d room n room' p in
    taken d desk m desk' (take n room') w.octets q o l k w.in_form w.level_0

-- 48, and only where the level is not 0
module _ (d room : List ℕ) (n : ℤ) (room' : List ℕ) (p : SavePromise d room n room') (q : formed d ≡ true) where
  told : (w : ℤ × List ℕ) → save_on d room ≡ w → n ≡ w.0
  told w e = ap (λ (v : ℤ × List ℕ). v.0) (p ∙ e)

  not_48 : n ≡ signed (refused 48) → level d room ≡ 0 → ⊥
  not_48 z e =
      by_test (too_short (hall_at d) (names_at d) room)
      (λ t.
      let k : 12 ≡ 47 =
      one-refusal 12 47 (sym (told _ (saves_short d room q e (ltb-true (length room) (length (sheet d room)) t))) ∙ z) in
      omega arith)
      (λ t.
      not-refused (length (sheet d room)) 47
      (sym (told _ (saves d room q e (ltb-false (length room) (length (sheet d room)) t))) ∙ z))

pub save_answers_48 : SaveAnswers48
save_answers_48 d room n room' p q = (λ o. told d room n room' p q _ (saves_48 d room q o), not_48 d room n room' p q)
