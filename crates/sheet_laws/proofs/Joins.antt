-- Seats that join one after the other: what is known of a join that took a seat, and when every one of them takes one.
-- Assumes nothing.
use Prim.Native.Nat.{ℕ, zero, suc, ◌+◌, ◌≤◌, ◌<◌}
use native.Mathlib.Omega.{arith}
use native.Mathlib.Numerals.{add-one}
use mathlib.Core.Bool.{true, false}
use mathlib.Core.List.{List, [], ◌∷◌}
use mathlib.Core.Path.{◌≡◌, refl, sym, ap, subst, ◌∙◌}
use lib.Dec.{ltb, eqb}
use lib.ListN.{length, get_or, drop, drop_of_length-le}
use lib.Seq.{drop-cons}
use borrow.Author.Tests.{ltb-true}
use Rattle.words.specs.Choice.{when◌then◌else◌, by_test}
use Rattle.hall.specs.declared.Settings.{Settings}
use Rattle.hall.specs.declared.Newcomer.{Newcomer}
use Rattle.identities.specs.declared.Names.{Names}
use Rattle.hall.specs.declared.Hall.{Hall}
use Rattle.joining.specs.declared.Joined.{Joined}
use Rattle.std.proofs.Common.{Option, Some, None, Result, Ok, IsOk, is_some}
use Rattle.hall.specs.Seats.{has_ssrc, seat_of, with_seat}
use Rattle.identities.specs.Identity.{same, has_name, seat_named, length_allowed}
use Rattle.joining.specs.Join.{ssrc_taken, join, seated}
use Rattle.joining.specs.Joins.{Passes, Joins, turned_away, sits_down}
use Rattle.joining.proofs.Joins.{join_seats, every_join}
use Rattle.sheet.specs.Layout.{Seat, seat_at}
use Rattle.events.specs.declared.Desk.{Desk}
use Rattle.sheet.specs.declared.Refusal.{Refusal}
use Rattle.loading.specs.Loading.{loaded, if_seated, join_all}
use Rattle.sheet_laws.proofs.Rows.{first_none, nobody, Row, row_free, row_on}

-- a newcomer that has a seat has passed every test
join_passed : (h : Hall) (ns : Names) (o : List ℕ) (n : Newcomer) (s : ℕ) → (join h ns o n).seat ≡ Some s → Passes h ns o n
join_passed h ns o n s e = go (every_join h ns o n)
  where
    go : Joins h ns o n (join h ns o n) → Passes h ns o n
    go (turned_away r q) = let none : None ≡ Some s = sym (ap (λ (j : Joined). j.seat) q) ∙ e in cc
    go (sits_down t p f z b q) = p

-- what the row becomes when the next of the list joins
module _ (h : Hall) (ns : Names) (zs : List Seat) (k : ℕ) (row : Row h ns zs k) (w : k < 16) where
  abbrev pub next : Joined
  next = join h ns (get_or zs k nobody).identity (get_or zs k nobody).who

  pub next_is : Passes h ns (get_or zs k nobody).identity (get_or zs k nobody).who
      → next ≡ seated h ns (get_or zs k nobody).identity (get_or zs k nobody).who (Some k)
  next_is p =
      join_seats h ns (get_or zs k nobody).identity (get_or zs k nobody).who p
      ∙ ap (seated h ns (get_or zs k nobody).identity (get_or zs k nobody).who) (row_free h ns zs k row w)

  pub next_seat : Passes h ns (get_or zs k nobody).identity (get_or zs k nobody).who → next.seat ≡ Some k
  unfolding seated
  next_seat p = rw (next_is p)

  pub next_row : Passes h ns (get_or zs k nobody).identity (get_or zs k nobody).who → Row next.hall next.names zs (suc k)
  unfolding seated
  next_row p = rw (next_is p, ← add-one k) (row_on h ns zs k row w p.long)

  pub next-settings : Passes h ns (get_or zs k nobody).identity (get_or zs k nobody).who → next.hall.settings ≡ h.settings
  unfolding seated with_seat
  next-settings p = rw (next_is p)

-- a desk with these seats in a row, and these settings
pub record Filled (st : Settings) (zs : List Seat) (d : Desk) : Type 0 where
  pub is : d ≡ loaded d.hall d.names
  pub row : Row d.hall d.names zs (length zs)
  pub settings : d.hall.settings ≡ st

-- a seat that may be on a sheet with these settings, and two that may both be
pub record SeatOk (st : Settings) (x : Seat) : Type 0 where
  pub long : length_allowed x.identity ≡ true
  pub not_desk : eqb x.who.ssrc st.ssrc ≡ false

pub record Apart (x y : Seat) : Type 0 where
  pub ssrcs : eqb x.who.ssrc y.who.ssrc ≡ false
  pub identities : same x.identity y.identity ≡ false

abbrev pub Ahead : Seat → List Seat → Type 0
Ahead x [] = Unit {0}
Ahead x (y ∷ ys) = Apart x y × Ahead x ys

abbrev pub Fine : Settings → List Seat → Type 0
Fine st [] = Unit {0}
Fine st (x ∷ xs) = SeatOk st x × Ahead x xs × Fine st xs

ahead-at : (x : Seat) (ys : List Seat) (j : ℕ) → Ahead x ys → j < length ys → Apart x (get_or ys j nobody)
ahead-at x [] j a l = absurd (omega arith)
ahead-at x (y ∷ ys) zero a l = a.0
ahead-at x (y ∷ ys) (suc j) a l = ahead-at x ys j a.1 (omega arith)

fine_at : (st : Settings) (zs : List Seat) (i : ℕ) → Fine st zs → i < length zs → SeatOk st (get_or zs i nobody)
fine_at st [] i f l = absurd (omega arith)
fine_at st (x ∷ zs) zero f l = f.0
fine_at st (x ∷ zs) (suc i) f l = fine_at st zs i f.2 (omega arith)

apart_at : (st : Settings) (zs : List Seat) (i j : ℕ) → Fine st zs → i < j → j < length zs → Apart (get_or zs i nobody) (get_or zs j nobody)
apart_at st [] i j f d l = absurd (omega arith)
apart_at st (x ∷ zs) i zero f d l = absurd (omega arith)
apart_at st (x ∷ zs) zero (suc j) f d l = ahead-at x zs j f.1 (omega arith)
apart_at st (x ∷ zs) (suc i) (suc j) f d l = apart_at st zs i j f.2 (omega arith) (omega arith)

-- the next of a fine list passes, since those before it sit in a row
module _ (st : Settings) (h : Hall) (ns : Names) (zs : List Seat) (k : ℕ) (row : Row h ns zs k) (is : h.settings ≡ st) (fine : Fine st zs)
    (l : k < length zs) where
  abbrev x : Seat
  x = get_or zs k nobody

  sits : (i : ℕ) → i < 16 → ltb i k ≡ true → Apart (seat_at h ns i) (get_or zs k nobody)
  sits i b t =
      let q : i < k = ltb-true i k t in
      subst (λ (y : Seat). Apart y x) (sym (row.seats i q)) (apart_at st zs i k fine q l)

  no_name : (i : ℕ) → i < 16 → has_name h ns (get_or zs k nobody).identity i ≡ false
  no_name i b =
      by_test (ltb i k) (λ t. rw (row.present i b ∙ t) (sits i b t).identities) (λ t. rw (row.present i b ∙ t))

  no_ssrc : (i : ℕ) → i < 16 → has_ssrc h (get_or zs k nobody).who.ssrc i ≡ false
  no_ssrc i b = by_test (ltb i k) (λ t. rw (row.present i b ∙ t) (sits i b t).ssrcs) (λ t. rw (row.present i b ∙ t))

  pub passes : Passes h ns (get_or zs k nobody).identity (get_or zs k nobody).who
  unfolding seat_named seat_of ssrc_taken when◌then◌else◌
  passes =
      let o = fine_at st zs k fine l in
      record {
        long = o.long;
        unnamed = ap is_some (first_none (has_name h ns x.identity) 16 0 (λ i b. no_name i b));
        unheard =
            rw (is, o.not_desk) (ap is_some (first_none (has_ssrc h x.who.ssrc) 16 0 (λ i b. no_ssrc i b)));
      }

-- a seat that was taken, where all that follow took theirs
by_seat {ℓ} : {P : Type ℓ} (f : Option ℕ) (m : Result Desk Refusal) (d : Desk) → if_seated f m ≡ Ok d →
    ((s : ℕ) → f ≡ Some s → m ≡ Ok d → P) → P
by_seat (Some s) m d e g = g s refl e
by_seat None m d e g = cc

module _ (st : Settings) (zs : List Seat) (few : length zs ≤ 16) where
  ended : (k : ℕ) → length zs ≤ k → drop k zs ≡ []
  ended k l = drop_of_length-le zs l

  -- where all were seated, the desk is filled
  pub filled : (n k : ℕ) (h : Hall) (ns : Names) (d : Desk) → k + n ≡ length zs → Row h ns zs k → h.settings ≡ st
      → join_all h ns (drop k zs) ≡ Ok d → Filled st zs d
  unfolding join_all
  filled zero k h ns d e row s a =
      let q : k ≡ length zs = omega arith in
      let b : Ok (loaded h ns) ≡ Ok d = rw (ended k (omega arith)) at a in
      let c : loaded h ns ≡ d = cc in
      rw (← c) (record { is = refl; row = subst (λ (m : ℕ). Row h ns zs m) q row; settings = s })
  filled (suc n) k h ns d e row s a =
      let l : k < length zs = omega arith in
      let w : k < 16 = omega arith in
      let c : drop k zs ≡ get_or zs k nobody ∷ drop (suc k) zs = drop-cons zs k nobody l in
      let j = next h ns zs k row w in
      by_seat j.seat (join_all j.hall j.names (drop (suc k) zs)) d (rw c at a)
      (λ t q b.
      let p = join_passed h ns (get_or zs k nobody).identity (get_or zs k nobody).who t q in
      filled n (suc k) j.hall j.names d (omega arith) (next_row h ns zs k row w p) (next-settings h ns zs k row w p ∙ s) b)

  -- a fine list is seated whole
  pub all_seated : (n k : ℕ) (h : Hall) (ns : Names) → k + n ≡ length zs → Row h ns zs k → h.settings ≡ st → Fine st zs
      → IsOk (join_all h ns (drop k zs))
  unfolding join_all
  all_seated zero k h ns e row s f = rw (ended k (omega arith))
  all_seated (suc n) k h ns e row s f =
      let l : k < length zs = omega arith in
      let w : k < 16 = omega arith in
      let c : drop k zs ≡ get_or zs k nobody ∷ drop (suc k) zs = drop-cons zs k nobody l in
      let j = next h ns zs k row w in
      let p = passes st h ns zs k row s f l in
      rw (c, next_seat h ns zs k row w p)
      (all_seated n (suc k) j.hall j.names (omega arith) (next_row h ns zs k row w p) (next-settings h ns zs k row w p ∙ s) f)
