-- Who is in line after an entry, after striking off, and who is in the set of those in line. Assumes nothing.
use Prim.Native.Nat.{ℕ, suc, ◌≤◌, ◌<◌}
use mathlib.Core.Path.{◌≡◌, refl, ap, sym, ◌∙◌}
use mathlib.Core.Bool.{Bool, true, false, not, ◌&&◌, ◌||◌, and-false, or-true, or-false, or_assoc}
use mathlib.Core.List.{List, [], ◌∷◌, ◌++◌}
use native.Mathlib.Omega.{arith}
use lib.Dec.{eqb, leb-suc-suc}
use lib.ListN.{length, take, drop, get_or, set, replicate, length-set, length-replicate, take-append-drop}
use lib.Seq.{get_or-set_same, get_or-set_other}
use borrow.Author.Tests.{eqb-true, eqb-false, eq-eqb, lt-ltb}
use Rattle.words.specs.Choice.{when◌then◌else◌, by_test}
use Rattle.words.specs.Table.{get_d_fill}
use Rattle.line.specs.declared.Entry.{Entry}
use Rattle.line.specs.Line.{before, leading, is_other, is_in, enter, ahead, without, added}
use Rattle.line.proofs.Laws.{without_le}
use Rattle.hall.specs.Seats.{only}

pub in_nil : (s : ℕ) → is_in s [] ≡ false
unfolding before
in_nil s = refl

pub none_in : (s : ℕ) {es : List Entry} → es ≡ [] → is_in s es ≡ false
none_in s q = ap (is_in s) q ∙ in_nil s

pub in_cons : (s : ℕ) (e : Entry) (es : List Entry) → is_in s (e ∷ es) ≡ (eqb e.seat s || is_in s es)
unfolding before when◌then◌else◌
in_cons s e es =
    by_test (eqb e.seat s)
    (λ q. rw q (lt-ltb 0 (suc (length es)) (omega arith)))
    (λ q. rw q (leb-suc-suc (suc (leading (is_other s) es)) (length es)))

-- the head of a line is in it
pub first_in : (e : Entry) (es : List Entry) → is_in e.seat (e ∷ es) ≡ true
first_in e es = in_cons e.seat e es ∙ rw (eq-eqb e.seat e.seat refl)

-- and who stands behind it
pub behind_in : (s : ℕ) (e : Entry) (es : List Entry) → is_in s es ≡ true → is_in s (e ∷ es) ≡ true
behind_in s e es q = in_cons s e es ∙ rw q (or-true (eqb e.seat s))

pub in_append : (s : ℕ) (a b : List Entry) → is_in s (a ++ b) ≡ (is_in s a || is_in s b)
in_append s [] b = rw (in_nil s)
in_append s (e ∷ a) b = rw (in_cons s e (a ++ b), in_cons s e a, in_append s a b) (sym (or_assoc (eqb e.seat s) (is_in s a) (is_in s b)))

-- put in at a place, or without it
pub in_enter : (s : ℕ) (e : Entry) (es : List Entry) → is_in s (enter e es) ≡ (eqb e.seat s || is_in s es)
unfolding enter
in_enter s e es =
    let k = ahead e.priority es in
    let whole : is_in s es ≡ (is_in s (take k es) || is_in s (drop k es)) =
    ap (is_in s) (sym (take-append-drop k es)) ∙ in_append s (take k es) (drop k es) in
    in_append s (take k es) (e ∷ drop k es) ∙ ap (λ (b : Bool). is_in s (take k es) || b) (in_cons s e (drop k es))
    ∙ swap (is_in s (take k es)) (eqb e.seat s) (is_in s (drop k es)) ∙ ap (λ (b : Bool). eqb e.seat s || b) (sym whole)
  where
    swap : (x y z : Bool) → (x || (y || z)) ≡ (y || (x || z))
    swap true true z = refl
    swap true false z = refl
    swap false y z = refl

pub in_without : (s : ℕ) (seats : List Bool) (es : List Entry) → is_in s (without seats es) ≡ (is_in s es && not (get_or seats s false))
unfolding without when◌then◌else◌
in_without s seats [] = rw (in_nil s)
in_without s seats (e ∷ es) =
    by_test (get_or seats e.seat false)
    (λ q. rw (q, in_cons s e es, in_without s seats es) (struck q))
    (λ q. rw (q, in_cons s e es, in_cons s e (without seats es), in_without s seats es) (kept q))
  where
    struck : get_or seats e.seat false ≡ true →
        (is_in s es && not (get_or seats s false)) ≡ ((eqb e.seat s || is_in s es) && not (get_or seats s false))
    struck q =
        by_test (eqb e.seat s)
        (λ t. let x : get_or seats s false ≡ true = ap (λ (n : ℕ). get_or seats n false) (sym (eqb-true e.seat s t)) ∙ q in
        rw (t, x) (and-false (is_in s es)))
        (λ t. rw t)

    kept : get_or seats e.seat false ≡ false →
        (eqb e.seat s || (is_in s es && not (get_or seats s false))) ≡ ((eqb e.seat s || is_in s es) && not (get_or seats s false))
    kept q =
        by_test (eqb e.seat s)
        (λ t. let x : get_or seats s false ≡ false = ap (λ (n : ℕ). get_or seats n false) (sym (eqb-true e.seat s t)) ∙ q in rw (t, x))
        (λ t. rw t)

-- one seat as a set
pub only_at : (t s : ℕ) → t < 16 → get_or (only t) s false ≡ eqb t s
only_at t s h =
    by_test (eqb t s)
    (λ q. let e : t ≡ s = eqb-true t s q in
    ap (λ (n : ℕ). get_or (only t) n false) (sym e) ∙ get_or-set_same (replicate 16 false) t true false (rw (length-replicate 16 false) h)
    ∙ sym q)
    (λ q. get_or-set_other (replicate 16 false) t s true false (λ e. eqb-false t s q (sym e)) ∙ get_d_fill false 16 s ∙ sym q)

-- striking off a seat that is in line makes the line shorter
pub without_less : (t : ℕ) (seats : List Bool) (es : List Entry) → get_or seats t false ≡ true → is_in t es ≡ true →
    length (without seats es) < length es
unfolding without when◌then◌else◌
without_less t seats [] h i = let z : ◌≡◌ {A = ℕ} 0 1 = cc (in_nil t) in absurd (omega arith)
without_less t seats (e ∷ es) h i =
    by_test (get_or seats e.seat false)
    (λ q. rw q (let l : length (without seats es) ≤ length es = without_le seats es in omega arith))
    (λ q. rw q (let l : length (without seats es) < length es = without_less t seats es h (rest q) in omega arith))
  where
    rest : get_or seats e.seat false ≡ false → is_in t es ≡ true
    rest q = by_test (eqb e.seat t)
        (λ x. let z : ◌≡◌ {A = ℕ} 0 1 =
        (let y : get_or seats t false ≡ false = ap (λ (n : ℕ). get_or seats n false) (sym (eqb-true e.seat t x)) ∙ q in cc) in
        absurd (omega arith))
        (λ x. rw x at (sym (in_cons t e es) ∙ i))

-- so of one seat alone: it is not in line any more, and the line is shorter by it
pub gone_out : (t : ℕ) (es : List Entry) → t < 16 → is_in t (without (only t) es) ≡ false
gone_out t es b = in_without t (only t) es ∙ rw (only_at t t b, eq-eqb t t refl) (and-false (is_in t es))

pub one_less : (t : ℕ) (es : List Entry) → t < 16 → is_in t es ≡ true → length (without (only t) es) < length es
one_less t es b w = without_less t (only t) es (only_at t t b ∙ eq-eqb t t refl) w

-- the set of those in line, where all sit below 16
pub in_added : (s : ℕ) (seats : List Bool) (es : List Entry) → length seats ≡ 16 → ((t : ℕ) → is_in t es ≡ true → t < 16) →
    get_or (added seats es) s false ≡ (get_or seats s false || is_in s es)
in_added s seats [] h f = rw (in_nil s) (sym (or-false (get_or seats s false)))
in_added s seats (e ∷ es) h f =
    let i : e.seat < length seats = rw h (f e.seat (first_in e es)) in
    in_added s (set seats e.seat true) es (length-set seats e.seat true ∙ h) (λ t q. f t (behind_in t e es q))
    ∙ by_test (eqb e.seat s)
    (λ q. let x : e.seat ≡ s = eqb-true e.seat s q in
    rw (in_cons s e es, q)
    (ap (λ (b : Bool). b || is_in s es)
    (ap (λ (n : ℕ). get_or (set seats e.seat true) n false) (sym x) ∙ get_or-set_same seats e.seat true false i)
    ∙ sym (or-true (get_or seats s false))))
    (λ q. rw (in_cons s e es, q)
    (ap (λ (b : Bool). b || is_in s es) (get_or-set_other seats e.seat s true false (λ y. eqb-false e.seat s q (sym y)))))
