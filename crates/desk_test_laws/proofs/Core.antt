-- The core passes its test exactly if it is sound. Assumes nothing.
use Prim.Native.Nat.{ℕ, ◌≤◌, ◌<◌}
use mathlib.Core.Path.{◌≡◌, refl, ap, sym, ◌∙◌}
use mathlib.Core.Bool.{true, false, not, ◌||◌}
use mathlib.Core.List.{List}
use native.Mathlib.Omega.{arith}
use lib.Dec.{eqb, leb, ltb}
use lib.ListN.{length, get_or, length-take}
use lib.Seq.{take_all}
use borrow.Author.Tests.{eqb-true, eq-eqb, leb-true, le-leb, not-true}
use Rattle.words.specs.Choice.{by_test}
use Rattle.words.specs.Below.{all_below, below}
use Rattle.words.specs.Table.{padded, padded-length}
use Rattle.words.proofs.Tests.{clash, and_both, and_three, and_four, both, three, four, or_left, or_right, or_else}
use Rattle.line.specs.declared.Entry.{Entry}
use Rattle.line.specs.declared.Line.{Line}
use Rattle.line.specs.Line.{waiting, line_of, empty, before, is_in}
use Rattle.line.proofs.Laws.{line_is}
use Rattle.hall.specs.declared.Hall.{Hall}
use Rattle.hall.specs.Seats.{is_present}
use Rattle.steps.specs.declared.Phase.{Phase}
use Rattle.steps.specs.declared.Phase.TheVariants.{Stopped, Idle, Taken, Revoking}
use Rattle.steps.specs.declared.Core.{Core}
use Rattle.giving.specs.Floor.{holds}
use Rattle.reach.specs.Sound.{ListOk, LineOk, FloorOk, CoreOk}
use Rattle.core_test.specs.Test.{in_order, is_first, place_sound, is_empty, place_behind, line_sound, holder_sound, floor_sound, core_sound}
use Rattle.desk_octets.proofs.Tests.{all_below_lem}
use Rattle.desk_test_laws.proofs.Filled.{filled-behind, behind-filled}
use Rattle.desk_test_laws.proofs.InLine.{sorted_from, sorted_at, once_from, once_at, place_in, found_seat, found_place, none_in}

-- those who wait
module _ (h : Hall) (es : List Entry) where
  PlaceOk : ℕ → Type 0
  PlaceOk i = (in_order es i ≡ true) × (is_first es i ≡ true) × (is_present h (get_or es i empty).seat ≡ true)

  place_ok : (i : ℕ) → place_sound h es i ≡ true → PlaceOk i
  unfolding place_sound PlaceOk
  place_ok i q = and_three _ _ _ q

  list_from : all_below (place_sound h es) (length es) ≡ true → leb (length es) h.settings.limit ≡ true → ListOk h es
  unfolding PlaceOk
  list_from q l =
      let at : (i : ℕ) → i < length es → PlaceOk i = λ i b. place_ok i (below (place_sound h es) (length es) q i b) in
      record {
        sorted = sorted_from es (λ i b. leb-true _ _ (at i b).0);
        once = once_from es (λ i b. eqb-true _ _ (at i b).1);
        within = leb-true _ _ l;
        here = λ s t. ap (is_present h) (sym (found_seat s es t)) ∙ (at (before s es) (found_place s es t)).2;
      }

  list_test : ListOk h es → all_below (place_sound h es) (length es) ≡ true
  unfolding place_sound
  list_test k =
      all_below_lem (place_sound h es) (length es)
      (λ i b. three _ _ _ (le-leb _ _ (sorted_at es k.sorted i)) (eq-eqb _ _ (once_at es k.once i b))
      (k.here (get_or es i empty).seat (place_in es k.once i b)))

-- the places behind them
abbrev entry_of : ℕ → ℕ → Entry
entry_of s p = record { seat = s; priority = p }

zeros : (s p : ℕ) → s ≡ 0 → p ≡ 0 → entry_of s p ≡ empty
zeros s p a b = rw (a, b)

empty_is : (e : Entry) → is_empty e ≡ true → e ≡ empty
empty_is e q =
    let a = and_both (eqb e.seat 0) (eqb e.priority 0) q in
    zeros e.seat e.priority (eqb-true e.seat 0 a.0) (eqb-true e.priority 0 a.1)

module _ (l : Line) (h : length l.entries ≡ 15) where
  few : length (waiting l) ≤ 15
  unfolding waiting
  few = omega (arith, length-take l.len l.entries)

  behind-from : eqb l.len (length (waiting l)) ≡ true → all_below (place_behind l) 15 ≡ true → l ≡ line_of (waiting l)
  unfolding waiting place_behind
  behind-from q r =
      line_is l.entries (waiting l) l.len
      (filled-behind empty 15 l.len l.entries h
      (λ i b t. empty_is (get_or l.entries i empty)
      (or_else (ltb i (length (waiting l))) (is_empty (get_or l.entries i empty)) t (below (place_behind l) 15 r i b))))
      (eqb-true _ _ q ∙ ap length (sym (take_all 15 (waiting l) few)))

module _ (l : Line) (k : l ≡ line_of (waiting l)) where
  counted : length (waiting l) ≤ 15 → l.len ≡ length (waiting l)
  unfolding line_of
  counted b = ap (λ (x : Line). x.len) k ∙ ap length (take_all 15 (waiting l) b)

  entries_are : l.entries ≡ padded empty 15 (waiting l)
  unfolding line_of
  entries_are = ap (λ (x : Line). x.entries) k

  pub fifteen : length l.entries ≡ 15
  fifteen = ap length entries_are ∙ padded-length empty 15 (waiting l)

  behind_test : all_below (place_behind l) 15 ≡ true
  unfolding waiting place_behind
  behind_test =
      all_below_lem (place_behind l) 15
      (λ i b. by_test (ltb i (length (waiting l)))
      (λ t. or_left (ltb i (length (waiting l))) (is_empty (get_or l.entries i empty)) t)
      (λ t. or_right (ltb i (length (waiting l))) (is_empty (get_or l.entries i empty))
      (ap is_empty (behind-filled empty 15 l.len l.entries entries_are i b t))))

-- the floor
module _ (h : Hall) (es : List Entry) where
  holder_ok : (s t : ℕ) → holder_sound h es s ≡ true → eqb s t ≡ true → (is_present h t ≡ true) × (is_in t es ≡ false)
  holder_ok s t q e =
      let a = and_both (is_present h s) (not (is_in s es)) q in
      let m : s ≡ t = eqb-true s t e in
      (ap (is_present h) (sym m) ∙ a.0, ap (λ (n : ℕ). is_in n es) (sym m) ∙ not-true (is_in s es) a.1)

  floor_from : (p : Phase) → floor_sound h es p ≡ true → FloorOk h p es
  unfolding floor_sound
  floor_from Stopped q = record { out = λ s t. clash t refl; still = λ _. none_in es q; holder = λ s t. clash t refl; cause = refl }
  floor_from (Idle t7) q = record { out = λ s t. clash t refl; still = λ _. none_in es q; holder = λ s t. clash t refl; cause = refl }
  floor_from (Taken e b) q =
      record {
        out = λ s t. (holder_ok e.seat s q t).1;
        still = λ t. clash refl t;
        holder = λ s t. (holder_ok e.seat s q t).0;
        cause = refl;
      }
  floor_from (Revoking e n) q =
      let a = and_both (holder_sound h es e.seat) (eqb n 2 || eqb n 4) q in
      record {
        out = λ s t. (holder_ok e.seat s a.0 t).1;
        still = λ t. clash refl t;
        holder = λ s t. (holder_ok e.seat s a.0 t).0;
        cause = a.1;
      }

  holder_test : (p : Phase) (s : ℕ) → FloorOk h p es → holds p s ≡ true → holder_sound h es s ≡ true
  holder_test p s k t = both (is_present h s) (not (is_in s es)) (k.holder s t) (ap not (k.out s t))

  floor_test : (p : Phase) → FloorOk h p es → floor_sound h es p ≡ true
  unfolding floor_sound
  floor_test Stopped k = eq-eqb (length es) 0 (ap length (k.still refl))
  floor_test (Idle t7) k = eq-eqb (length es) 0 (ap length (k.still refl))
  floor_test (Taken e b) k = holder_test (Taken e b) e.seat k (eq-eqb e.seat e.seat refl)
  floor_test (Revoking e n) k =
      both (holder_sound h es e.seat) (eqb n 2 || eqb n 4) (holder_test (Revoking e n) e.seat k (eq-eqb e.seat e.seat refl))
      k.cause

-- the line, and the whole core
module _ (h : Hall) (l : Line) where
  line_tests : line_sound h l ≡ true →
      (all_below (place_sound h (waiting l)) (length (waiting l)) ≡ true) × (leb (length (waiting l)) h.settings.limit ≡ true)
      × (eqb l.len (length (waiting l)) ≡ true) × (all_below (place_behind l) 15 ≡ true)
  unfolding line_sound
  line_tests q = and_four _ _ _ _ q

  line-from : length l.entries ≡ 15 → line_sound h l ≡ true → LineOk h l
  line-from n q =
      let a = line_tests q in
      record { list = list_from h (waiting l) a.0 a.1; behind = behind-from l n a.2 a.3 }

  line_test : h.settings.limit ≤ 15 → LineOk h l → line_sound h l ≡ true
  unfolding line_sound
  line_test m k =
      four _ _ _ _ (list_test h (waiting l) k.list) (le-leb _ _ k.list.within)
      (eq-eqb _ _ (counted l k.behind (omega (arith, k.list.within)))) (behind_test l k.behind)

module _ (h : Hall) (c : Core) where
  core_tests : core_sound h c ≡ true →
      (line_sound h c.line ≡ true) × (floor_sound h (waiting c.line) c.phase ≡ true)
      × (leb c.c7 h.settings.c7 ≡ true) × (leb c.c20 h.settings.c20 ≡ true)
  unfolding core_sound
  core_tests q = and_four _ _ _ _ q

  pub core_from : length c.line.entries ≡ 15 → c.sequence < 65536 → core_sound h c ≡ true → CoreOk h c
  core_from n s q =
      let a = core_tests q in
      record {
        line = line-from h c.line n a.0;
        floor = floor_from h (waiting c.line) c.phase a.1;
        numbers = record { sequence = s; c7 = leb-true _ _ a.2; c20 = leb-true _ _ a.3 };
      }

  pub core_test_lem : h.settings.limit ≤ 15 → CoreOk h c → core_sound h c ≡ true
  unfolding core_sound
  core_test_lem m k =
      four _ _ _ _ (line_test h c.line m k.line) (floor_test h (waiting c.line) c.phase k.floor)
      (le-leb _ _ k.numbers.c7) (le-leb _ _ k.numbers.c20)
