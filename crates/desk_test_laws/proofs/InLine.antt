-- A list of entries tested place by place: highest first, nobody twice, and where a seat is found. Assumes nothing.
use Prim.Native.Nat.{ℕ, zero, suc, ◌≤◌, ◌<◌}
use mathlib.Core.Path.{◌≡◌, refl, ap, sym, ◌∙◌}
use mathlib.Core.Bool.{true, false}
use mathlib.Core.List.{List, [], ◌∷◌}
use native.Mathlib.Omega.{arith}
use lib.Dec.{eqb}
use lib.ListN.{length, get_or}
use borrow.Author.Tests.{eqb-true, eq-eqb, ltb-true, lt-ltb}
use Rattle.words.specs.Choice.{by_test}
use Rattle.words.proofs.Tests.{clash, or_else}
use Rattle.line.specs.declared.Entry.{Entry}
use Rattle.line.specs.Line.{empty, before, is_in}
use Rattle.line.proofs.Laws.{before_here, before_later}
use Rattle.marks.proofs.InLine.{in_nil, in_cons}
use Rattle.reach.specs.Sound.{Sorted, Once}
use Rattle.reach.specs.Sound.{AtMost}
use Rattle.reach.proofs.InLine.{all_more}

-- highest first: the next place has no higher priority
pub sorted_from : (es : List Entry) → ((i : ℕ) → i < length es → (get_or es (suc i) empty).priority ≤ (get_or es i empty).priority) →
    Sorted es
sorted_from [] f = tt
sorted_from (e ∷ []) f = (tt, tt)
sorted_from (e ∷ (x ∷ es)) f =
    let r : Sorted (x ∷ es) = sorted_from (x ∷ es) (λ i h. f (suc i) (omega arith)) in
    let h : x.priority ≤ e.priority = f 0 (omega arith) in
    ((h, all_more (AtMost x.priority) (AtMost e.priority) es (λ y l. omega arith) r.0), r)

pub sorted_at : (es : List Entry) → Sorted es → (i : ℕ) → (get_or es (suc i) empty).priority ≤ (get_or es i empty).priority
sorted_at [] s i = omega arith
sorted_at (e ∷ []) s zero = omega arith
sorted_at (e ∷ []) s (suc i) = omega arith
sorted_at (e ∷ (x ∷ es)) s zero = s.0.0
sorted_at (e ∷ (x ∷ es)) s (suc i) = sorted_at (x ∷ es) s.1 i

-- where a seat is found stands its entry
pub found_seat : (s : ℕ) (es : List Entry) → is_in s es ≡ true → (get_or es (before s es) empty).seat ≡ s
found_seat s [] q = clash q (in_nil s)
found_seat s (e ∷ es) q =
    by_test (eqb e.seat s)
    (λ t. ap (λ (n : ℕ). (get_or (e ∷ es) n empty).seat) (before_here e es s t) ∙ eqb-true e.seat s t)
    (λ t. ap (λ (n : ℕ). (get_or (e ∷ es) n empty).seat) (before_later e es s t)
    ∙ found_seat s es (or_else (eqb e.seat s) (is_in s es) t (sym (in_cons s e es) ∙ q)))

pub found_place : (s : ℕ) (es : List Entry) → is_in s es ≡ true → before s es < length es
found_place s es q = ltb-true (before s es) (length es) q

-- nobody twice: the seat of a place is first found there
module _ (e : Entry) (es : List Entry) (f : (i : ℕ) → i < length (e ∷ es) → before (get_or (e ∷ es) i empty).seat (e ∷ es) ≡ i) where
  other : (i : ℕ) → i < length es → eqb e.seat (get_or es i empty).seat ≡ false
  other i h =
      by_test (eqb e.seat (get_or es i empty).seat)
      (λ t. let z : suc i ≡ 0 = sym (f (suc i) (omega arith)) ∙ before_here e es (get_or es i empty).seat t in absurd (omega arith))
      (λ t. t)

  later : (i : ℕ) → i < length es → before (get_or es i empty).seat es ≡ i
  later i h =
      let z : suc i ≡ suc (before (get_or es i empty).seat es) =
      sym (f (suc i) (omega arith)) ∙ before_later e es (get_or es i empty).seat (other i h) in
      omega arith

  alone : is_in e.seat es ≡ false
  alone =
      by_test (is_in e.seat es)
      (λ t. clash (eq-eqb e.seat (get_or es (before e.seat es) empty).seat (sym (found_seat e.seat es t)))
      (other (before e.seat es) (found_place e.seat es t)))
      (λ t. t)

pub once_from : (es : List Entry) → ((i : ℕ) → i < length es → before (get_or es i empty).seat es ≡ i) → Once es
once_from [] f = tt
once_from (e ∷ es) f = (alone e es f, once_from es (later e es f))

pub once_at : (es : List Entry) → Once es → (i : ℕ) → i < length es → before (get_or es i empty).seat es ≡ i
once_at [] o i h = absurd (omega arith)
once_at (e ∷ es) o zero h = before_here e es e.seat (eq-eqb e.seat e.seat refl)
once_at (e ∷ es) o (suc i) h =
    let r : before (get_or es i empty).seat es ≡ i = once_at es o.1 i (omega arith) in
    let b : i < length es = omega arith in
    let q : is_in (get_or es i empty).seat es ≡ true = lt-ltb (before (get_or es i empty).seat es) (length es) (omega arith) in
    by_test (eqb e.seat (get_or es i empty).seat)
    (λ t. clash (ap (λ (s : ℕ). is_in s es) (eqb-true e.seat (get_or es i empty).seat t) ∙ q) o.0)
    (λ t. before_later e es (get_or es i empty).seat t ∙ ap suc r)

-- the seat of a place is in line
pub place_in : (es : List Entry) (o : Once es) (i : ℕ) → i < length es → is_in (get_or es i empty).seat es ≡ true
place_in es o i h = lt-ltb (before (get_or es i empty).seat es) (length es) (omega (arith, once_at es o i h))

pub none_in : (es : List Entry) → eqb (length es) 0 ≡ true → es ≡ []
none_in [] q = refl
none_in (e ∷ es) q = let z : suc (length es) ≡ 0 = eqb-true (length (e ∷ es)) 0 q in absurd (omega arith)
