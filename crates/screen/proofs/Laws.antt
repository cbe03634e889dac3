-- The room while the line is written to it, entry by entry, and what it holds in the end. Assumes nothing.
use Prim.Native.Nat.{ℕ, zero, suc, ◌+◌, ◌-◌, ◌≤◌, ◌<◌}
use native.Mathlib.Numerals.{add-one}
use native.Mathlib.Omega.{arith}
use mathlib.Core.List.{List, [], ◌∷◌, ◌++◌, append_assoc}
use mathlib.Core.Path.{◌≡◌, refl, sym, ap, subst, ◌∙◌}
use lib.Dec.{ltb, leb}
use lib.ListN.{length, take, drop, get_or, set, replicate, length-take, get_or-append, get_or-eq_default}
use lib.Seq.{take-suc, take_all, take-take, drop-cons, set_at, get_or-append-add}
use borrow.Author.Tests.{le-leb, lt-leb, leb-true, leb-false, ltb-true, ltb-false}
use Rattle.words.specs.Choice.{when◌then◌else◌, by_test, if_yes, if_no}
use Rattle.message.specs.Answers.{refused, result}
use Rattle.line.specs.declared.Entry.{Entry}
use Rattle.line.specs.declared.Line.{Line}
use Rattle.line.specs.Line.{waiting, empty}
use Rattle.std.specs.Prelude.{Option, Some, None}
use Rattle.screen.specs.Screen.{shown_in, list_answer, shown_answer, over_first, filled, listing}

-- the first entries of the line over the room's, this many
abbrev pub up_to : List Entry → List Entry → ℕ → List Entry
up_to es room i = take i es ++ drop i room

-- one more of them
module _ (es room : List Entry) (i : ℕ) (in-line : i < length es) (in-room : i < length room) where
  pub upto_more : set (up_to es room i) i (get_or es i empty) ≡ up_to es room (i + 1)
  upto_more =
      rw (
        add-one i,
        take-suc es i empty in-line,
        drop-cons room i empty in-room,
        append_assoc (take i es) (get_or es i empty ∷ []) (drop (suc i) room),
      )
      (set_at (take i es) (get_or room i empty) (drop (suc i) room) (get_or es i empty) i (rw (length-take i es) (omega (arith, in-line))))

-- the first entries of the line's array are the first who wait
pub first_waiting : (l : Line) (n : ℕ) → n ≤ length (waiting l) → take n l.entries ≡ take n (waiting l)
unfolding waiting
first_waiting l n h = sym (take-take n l.len l.entries (omega (arith, h, length-take l.len l.entries)))

-- all who wait, or none
pub shown_all : (es : List Entry) (places : ℕ) → length es ≤ places → shown_in es places ≡ length es
unfolding shown_in when◌then◌else◌
shown_all es places h = rw (le-leb (length es) places h)

pub shown_none : (es : List Entry) (places : ℕ) → places < length es → shown_in es places ≡ 0
unfolding shown_in when◌then◌else◌
shown_none es places h = rw (lt-leb (length es) places h)

pub answered_all : (es : List Entry) (places : ℕ) → length es ≤ places → list_answer es places ≡ result (length es)
unfolding list_answer when◌then◌else◌
answered_all es places h = rw (le-leb (length es) places h)

pub answered_none : (es : List Entry) (places : ℕ) → places < length es → list_answer es places ≡ refused 13
unfolding list_answer when◌then◌else◌
answered_none es places h = rw (lt-leb (length es) places h)

-- the answer in the paper's numbers determines the answer, so any two answers that a promise here allows coincide
pub told_one : (a b : Option ℕ) → shown_answer a ≡ shown_answer b → a ≡ b
told_one (Some m) (Some n) e = ap Some cc
told_one (Some m) None e = cc
told_one None (Some n) e = cc
told_one None None e = refl

pub shown_in_line : (es : List Entry) (places : ℕ) → shown_in es places ≤ length es
shown_in_line es places =
    by_test (leb (length es) places) (λ t. rw (shown_all es places (leb-true (length es) places t)) (omega arith))
    (λ t. rw (shown_none es places (leb-false (length es) places t)) (omega arith))

pub shown_in_room : (es : List Entry) (places : ℕ) → shown_in es places ≤ places
shown_in_room es places =
    by_test (leb (length es) places) (λ t. rw (shown_all es places (leb-true (length es) places t)) (leb-true (length es) places t))
    (λ t. rw (shown_none es places (leb-false (length es) places t)) (omega arith))

-- once as many are written as are shown, the room holds what it is to hold
pub upto_left : (es room : List Entry) → up_to es room (shown_in es (length room)) ≡ filled es room
unfolding filled
upto_left es room =
    by_test (leb (length es) (length room))
    (λ t. rw (shown_all es (length room) (leb-true (length es) (length room) t), if_yes _ _ _ t, take_all (length es) es (omega arith)))
    (λ t. rw (shown_none es (length room) (leb-false (length es) (length room) t), if_no _ _ _ t))

-- Nothing is left out of the list in fifteen places: a line, whose array has fifteen entries, fits into them.
pub waiting-fits : (l : Line) → length l.entries ≡ 15 → length (waiting l) ≤ 15
unfolding waiting
waiting-fits l e = rw (length-take l.len l.entries) (omega (arith, e))

pub listed_all : (l : Line) → length l.entries ≡ 15 → filled (waiting l) (replicate 15 empty) ≡ listing (waiting l)
unfolding filled listing
listed_all l e = if_yes _ _ _ (le-leb (length (waiting l)) 15 (waiting-fits l e))

past_empties : (n m k : ℕ) → get_or (drop n (replicate m empty)) k empty ≡ empty
past_empties zero zero k = refl
past_empties zero (suc m) zero = refl
past_empties zero (suc m) (suc k) = past_empties zero m k
past_empties (suc n) zero k = refl
past_empties (suc n) (suc m) k = past_empties n m k

-- at each place of the list stands who waits there, and the empty entry past them
pub listed_at : (es : List Entry) (i : ℕ) → get_or (listing es) i empty ≡ get_or es i empty
unfolding listing
listed_at es i =
    by_test (ltb i (length es)) (λ t. get_or-append es _ empty i (ltb-true i (length es) t))
    (λ t. let h : length es ≤ i = ltb-false i (length es) t in
    let e : i ≡ length es + (i - length es) = omega (arith, h) in
    subst (λ (k : ℕ). get_or (over_first es (replicate 15 empty)) k empty ≡ empty) (sym e)
    (get_or-append-add es _ (i - length es) empty ∙ past_empties (length es) 15 (i - length es)) ∙ sym (get_or-eq_default es empty h))
