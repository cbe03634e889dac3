-- What the octets of a desk say of its line: how many wait, who stands at a place, where a seat is found. Assumes nothing.
use Rattle.desk_octets.specs.Places.{phase_place, holder_place, cause_place, c7_place, c20_place, count_place}
use Rattle.desk_octets.specs.Places.{waiting_column, waiting_zero, priorities_column, priorities_zero, limit_place, c7_limit_place}
use Rattle.desk_octets.specs.Places.{c20_limit_place}
use Prim.Native.Nat.{ℕ, zero, suc, ◌+◌, ◌≤◌, ◌<◌}
use mathlib.Core.Path.{◌≡◌, refl, ap, sym, ◌∙◌}
use mathlib.Core.Bool.{Bool, true, false, not, ◌&&◌, ◌||◌, and-true}
use mathlib.Core.List.{List, [], ◌∷◌}
use native.Mathlib.Nat.{zero-add}
use native.Mathlib.Numerals.{add-one}
use native.Mathlib.Omega.{arith}
use lib.Dec.{eqb, leb, ltb}
use lib.ListN.{length, get_or, length-take, get_or-eq_default}
use lib.Seq.{get_or-take}
use borrow.Author.Tests.{eqb-true, eq-eqb, le-leb, ltb-true, ltb-false, le-ltb, not-true, ne_eqb}
use Rattle.words.specs.Choice.{when◌then◌else◌, by_test}
use Rattle.words.specs.Below.{all_below, below}
use Rattle.words.proofs.Tests.{clash, both, or_right}
use Rattle.line.specs.declared.Entry.{Entry}
use Rattle.line.specs.Line.{waiting, empty, before, is_in}
use Rattle.line.proofs.Laws.{before_here, before_later}
use Rattle.octets.specs.Octets.{be16, nth_octet}
use Rattle.desk_octets.specs.Form.{phase_of, phase_at, entry_at, entries_at, core_at, hall_at, core_fits}
use Rattle.seat_octets.specs.Layout.{settings_in}
use Rattle.desk_octets.proofs.Columns.{length-column, get_d_column}
use Rattle.desk_octets.proofs.Facts.{CoreFacts, core_facts}
use Rattle.core_test.specs.declared.Lent.{Lent}
use Rattle.core_test.specs.Test.{in_order, is_first, place_sound, place_behind, line_sound, holder_sound, floor_sound, core_sound}
use Rattle.core_test.specs.Line.{line_in, is_another}
use Rattle.desk_octets.proofs.Tests.{all_below_lem, together, below_same}

-- how many stand before a seat: as many as have other seats
before-from : (x : ℕ) (es : List Entry) (k : ℕ) → k ≤ length es → ((j : ℕ) → j < k → eqb (get_or es j empty).seat x ≡ false) →
    k ≤ before x es
before-from x [] k h f = omega arith
before-from x (e ∷ es) zero h f = omega arith
before-from x (e ∷ es) (suc k) h f =
    let r : k ≤ before x es = before-from x es k (omega arith) (λ j b. f (suc j) (omega arith)) in
    omega (arith, before_later e es x (f 0 (omega arith)))

before_none : (x : ℕ) → before x [] ≡ 0
unfolding before
before_none x = refl

before_at : (x : ℕ) (es : List Entry) (j : ℕ) → j < before x es → eqb (get_or es j empty).seat x ≡ false
before_at x [] j h = absurd (omega (arith, before_none x))
before_at x (e ∷ es) zero h = by_test (eqb e.seat x) (λ t. absurd (omega (arith, before_here e es x t))) (λ t. t)
before_at x (e ∷ es) (suc j) h =
    by_test (eqb e.seat x)
    (λ t. absurd (omega (arith, before_here e es x t)))
    (λ t. before_at x es j (omega (arith, before_later e es x t)))

-- a place has a seat that stands at no earlier one
first_is : (es : List Entry) (i : ℕ) → i < length es →
    is_first es i ≡ all_below (λ j. not (eqb (get_or es j empty).seat (get_or es i empty).seat)) i
first_is es i b =
    let x = (get_or es i empty).seat in
    together (is_first es i) (all_below (λ j. not (eqb (get_or es j empty).seat x)) i)
    (λ q. let e : before x es ≡ i = eqb-true (before x es) i q in
    all_below_lem (λ j. not (eqb (get_or es j empty).seat x)) i (λ j h. ap not (before_at x es j (omega arith))))
    (λ q. let l : i ≤ before x es = before-from x es i (omega arith) (λ j h. not-true (eqb (get_or es j empty).seat x)
    (below (λ k. not (eqb (get_or es k empty).seat x)) i q j h)) in
    by_test (ltb i (before x es))
    (λ t. clash (eq-eqb x x refl) (before_at x es i (ltb-true i (before x es) t)))
    (λ t. let m : before x es ≤ i = ltb-false i (before x es) t in eq-eqb (before x es) i (omega arith)))

-- a seat is not in line where every place has another
apart_is : (x : ℕ) (es : List Entry) → not (is_in x es) ≡ all_below (λ j. not (eqb (get_or es j empty).seat x)) (length es)
apart_is x es =
    together (not (is_in x es)) (all_below (λ j. not (eqb (get_or es j empty).seat x)) (length es))
    (λ q. let l : length es ≤ before x es = ltb-false (before x es) (length es) (not-true (is_in x es) q) in
    all_below_lem (λ j. not (eqb (get_or es j empty).seat x)) (length es) (λ j h. ap not (before_at x es j (omega arith))))
    (λ q. let l : length es ≤ before x es = before-from x es (length es) (omega arith) (λ j h. not-true (eqb (get_or es j empty).seat x)
    (below (λ k. not (eqb (get_or es k empty).seat x)) (length es) q j h)) in
    ap not (le-ltb (before x es) (length es) l))

-- the line in lent octets
module _ (v : Lent) where
  few : nth_octet v.octets.now count_place ≤ 15
  few = omega (arith, v.counted, v.few)

  pub line_length : length (line_in v.octets.now) ≡ v.waiting
  unfolding waiting core_at entries_at
  line_length =
      let s = v.octets.now in
      omega (arith, few, v.counted, length-take (nth_octet s count_place) (entries_at s), length-column (entry_at s) 0 15)

  line_at : (i : ℕ) → i < v.waiting → get_or (line_in v.octets.now) i empty ≡ entry_at v.octets.now i
  unfolding waiting core_at entries_at
  line_at i h =
      let s = v.octets.now in
      get_or-take (nth_octet s count_place) (entries_at s) i empty (omega (arith, v.counted))
      ∙ get_d_column (entry_at s) 0 15 i empty (omega (arith, v.few)) ∙ ap (entry_at s) (zero-add i)

  pub seat_at : (i : ℕ) → i < v.waiting → (get_or (line_in v.octets.now) i empty).seat ≡ nth_octet v.octets.now (waiting_column + i)
  seat_at i h = ap (λ (e : Entry). e.seat) (line_at i h)

  pub first_in : (i : ℕ) → i < v.waiting →
      all_below (is_another v.octets.now (nth_octet v.octets.now (waiting_column + i))) i ≡ is_first (line_in v.octets.now) i
  first_in i h =
      let s = v.octets.now in
      below_same (is_another s (nth_octet s (waiting_column + i)))
      (λ j. not (eqb (get_or (line_in s) j empty).seat (get_or (line_in s) i empty).seat)) i
      (λ j k. rw (seat_at j (omega arith), seat_at i h))
      ∙ sym (first_is (line_in s) i (omega (arith, line_length)))

  pub apart_in : (x : ℕ) → all_below (is_another v.octets.now x) v.waiting ≡ not (is_in x (line_in v.octets.now))
  apart_in x =
      let s = v.octets.now in
      below_same (is_another s x) (λ j. not (eqb (get_or (line_in s) j empty).seat x)) v.waiting (λ j k. rw (seat_at j k))
      ∙ ap (all_below (λ j. not (eqb (get_or (line_in s) j empty).seat x))) (sym line_length)
      ∙ sym (apart_is x (line_in s))

  pub order_in : (i : ℕ) → i + 1 < v.waiting →
      leb (nth_octet v.octets.now (priorities_column + (i + 1))) (nth_octet v.octets.now (priorities_column + i))
      ≡ in_order (line_in v.octets.now) i
  order_in i h = rw (line_at (suc i) (omega arith), line_at i (omega arith), add-one i)

  pub order_last : (i : ℕ) → v.waiting ≤ i + 1 → true ≡ in_order (line_in v.octets.now) i
  order_last i h =
      let es = line_in v.octets.now in
      let e : get_or es (suc i) empty ≡ empty = get_or-eq_default es empty (omega (arith, line_length)) in
      rw e (sym (le-leb 0 (get_or es i empty).priority (omega arith)))

-- what stands at fixed places
len_is : (s : List ℕ) → (core_at s).line.len ≡ nth_octet s count_place
unfolding core_at
len_is s = refl

limit_is : (s : List ℕ) → (hall_at s).settings.limit ≡ nth_octet s limit_place
unfolding hall_at settings_in
limit_is s = refl

pub few_wait : (s : List ℕ) → core_fits s ≡ true → nth_octet s count_place ≤ 15
few_wait s fits = (core_facts s fits).few

-- a place that is in line or zero
abbrev pub clear : Lent → ℕ → Bool
clear v i =
    ltb i v.waiting || (eqb (nth_octet v.octets.now (waiting_column + i)) 0 && eqb (nth_octet v.octets.now (priorities_column + i)) 0)

-- what the table says of the line
module _ (v : Lent) where
  parts : CoreFacts v.octets.now
  parts = core_facts v.octets.now v.fits

  place_is : (i : ℕ) → i < 15 → clear v i ≡ place_behind (core_at v.octets.now).line i
  unfolding place_behind core_at entries_at
  place_is i h =
      let e = get_d_column (entry_at v.octets.now) 0 15 i empty h ∙ ap (entry_at v.octets.now) (zero-add i) in
      rw (e, line_length v)

  pub behind_in : all_below (clear v) 16 ≡ all_below (place_behind (core_at v.octets.now).line) 15
  behind_in =
      let s = v.octets.now in
      let zeros = eqb (nth_octet s waiting_zero) 0 && eqb (nth_octet s priorities_zero) 0 in
      ap (λ (b : Bool). b && all_below (clear v) 15)
      (or_right (ltb 15 v.waiting) zeros
      (both (eqb (nth_octet s waiting_zero) 0) (eqb (nth_octet s priorities_zero) 0) (eq-eqb _ _ parts.behind-waiting)
      (eq-eqb _ _ parts.behind_priorities)))
      ∙ below_same (clear v) (place_behind (core_at s).line) 15 place_is

  -- the test of the line; that its length is at most fifteen is said already
  pub line_is : (all_below (place_sound (hall_at v.octets.now) (line_in v.octets.now)) v.waiting
      && leb v.waiting (nth_octet v.octets.now limit_place)
      && all_below (place_behind (core_at v.octets.now).line) 15)
      ≡ line_sound (hall_at v.octets.now) (core_at v.octets.now).line
  unfolding line_sound
  line_is =
      let s = v.octets.now in
      let places = all_below (place_sound (hall_at s) (line_in s)) in
      let behind = all_below (place_behind (core_at s).line) 15 in
      let k = length (line_in s) in
      ap (λ (m : ℕ). places m && leb m (nth_octet s limit_place) && behind) (sym (line_length v))
      ∙ ap (λ (m : ℕ). places k && leb k m && behind) (sym (limit_is s))
      ∙ ap (λ (b : Bool). b && behind) (sym (and-true (places k && leb k (hall_at s).settings.limit)))
      ∙ ap (λ (b : Bool). places k && leb k (hall_at s).settings.limit && b && behind)
      (sym (eq-eqb (core_at s).line.len k (len_is s ∙ sym v.counted ∙ sym (line_length v))))

-- the floor, by the number of its phase
module _ (v : Lent) where
  abbrev phase_number : ℕ
  phase_number = nth_octet v.octets.now phase_place

  abbrev floor : Bool
  floor = floor_sound (hall_at v.octets.now) (line_in v.octets.now) (core_at v.octets.now).phase

  abbrev holder : Bool
  holder = holder_sound (hall_at v.octets.now) (line_in v.octets.now) (nth_octet v.octets.now holder_place)

  pub floor_0 : phase_number ≡ 0 → eqb v.waiting 0 ≡ floor
  unfolding floor_sound core_at phase_at phase_of when◌then◌else◌
  floor_0 e = rw (e, line_length v)

  pub floor_1 : phase_number ≡ 1 → eqb v.waiting 0 ≡ floor
  unfolding floor_sound core_at phase_at phase_of when◌then◌else◌
  floor_1 e = rw (e, line_length v)

  pub floor_2 : phase_number ≡ 2 → holder ≡ floor
  unfolding floor_sound core_at phase_at phase_of when◌then◌else◌
  floor_2 e = rw e

  pub floor_3 : 3 ≤ phase_number → (holder && (eqb (be16 v.octets.now cause_place) 2 || eqb (be16 v.octets.now cause_place) 4)) ≡ floor
  unfolding floor_sound core_at phase_at phase_of when◌then◌else◌
  floor_3 e =
      let other : (k : ℕ) → k < 3 → eqb phase_number k ≡ false = λ k h. ne_eqb phase_number k (λ q. omega arith) in
      rw (other 0 (omega arith), other 1 (omega arith), other 2 (omega arith))

pub ruleset floors = (floor_0, floor_1, floor_2, floor_3)

-- the counters
pub core_is : (s : List ℕ) → (line_sound (hall_at s) (core_at s).line && floor_sound (hall_at s) (line_in s) (core_at s).phase
    && leb (nth_octet s c7_place) (nth_octet s c7_limit_place) && leb (nth_octet s c20_place) (nth_octet s c20_limit_place))
    ≡ core_sound (hall_at s) (core_at s)
unfolding core_sound core_at hall_at settings_in
core_is s = refl
