-- Who waits in a line and at which priority, after an entry and after striking off. Assumes nothing.
use Prim.Native.Nat.{ℕ, ◌≤◌}
use mathlib.Core.Path.{◌≡◌, refl, ap, sym, ◌∙◌}
use mathlib.Core.Bool.{Bool, true, false, not, ◌&&◌, ◌||◌}
use mathlib.Core.List.{List, [], ◌∷◌}
use native.Mathlib.Omega.{arith}
use lib.Dec.{eqb, leb}
use lib.ListN.{get_or}
use borrow.Author.Tests.{eqb-true, eq-eqb}
use Rattle.words.specs.Choice.{when◌then◌else◌, if_yes, if_no, by_test, by_if}
use Rattle.words.proofs.Tests.{clash, or_else, neither_left, neither_right}
use Rattle.line.specs.declared.Entry.{Entry}
use Rattle.line.specs.Line.{is_in, empty, enter, without, priority_of}
use Rattle.line.proofs.Laws.{enter_nil, enter_cons, before_here, before_later}
use Rattle.marks.proofs.InLine.{in_nil, in_cons, in_enter, in_without}
use Rattle.reach.specs.Sound.{All, AtMost}
use Rattle.demands.specs.Demands.{Place, away, in_line}

-- the priority at which a seat waits, place by place
pub priority_cons : (s : ℕ) (x : Entry) (xs : List Entry) →
    priority_of s (x ∷ xs) ≡ (when eqb x.seat s then x.priority else priority_of s xs)
unfolding priority_of
priority_cons s x xs =
    by_test (eqb x.seat s)
    (λ q. ap (λ (n : ℕ). (get_or (x ∷ xs) n empty).priority) (before_here x xs s q) ∙ sym (if_yes _ _ _ q))
    (λ q. ap (λ (n : ℕ). (get_or (x ∷ xs) n empty).priority) (before_later x xs s q) ∙ sym (if_no _ _ _ q))

pub priority_most : (p s : ℕ) (es : List Entry) → All (AtMost p) es → is_in s es ≡ true → priority_of s es ≤ p
priority_most p s [] k i = clash i (in_nil s)
priority_most p s (x ∷ xs) k i =
    rw (priority_cons s x xs)
    (by_if (λ (n : ℕ). n ≤ p) (eqb x.seat s) (λ _. k.0) (λ q. priority_most p s xs k.1 (or_else _ _ q (sym (in_cons s x xs) ∙ i))))

swapped : (a b : Bool) (m n o : ℕ) → (a ≡ true → b ≡ true → ⊥) →
    (when a then m else when b then n else o) ≡ (when b then n else when a then m else o)
unfolding when◌then◌else◌
swapped true true m n o f = absurd (f refl refl)
swapped true false m n o f = refl
swapped false true m n o f = refl
swapped false false m n o f = refl

pub priority_enter : (s : ℕ) (e : Entry) (es : List Entry) → is_in e.seat es ≡ false →
    priority_of s (enter e es) ≡ (when eqb e.seat s then e.priority else priority_of s es)
priority_enter s e [] n = ap (priority_of s) (enter_nil e) ∙ priority_cons s e []
priority_enter s e (x ∷ xs) n =
    let m : (eqb x.seat e.seat || is_in e.seat xs) ≡ false = sym (in_cons e.seat x xs) ∙ n in
    rw (enter_cons e x xs)
    (by_if (λ (es : List Entry). priority_of s es ≡ (when eqb e.seat s then e.priority else priority_of s (x ∷ xs)))
    (leb e.priority x.priority)
    (λ _. rw (
      priority_cons s x (enter e xs),
      priority_cons s x xs,
      priority_enter s e xs (neither_right (eqb x.seat e.seat) (is_in e.seat xs) m),
    )
    (swapped (eqb x.seat s) (eqb e.seat s) x.priority e.priority (priority_of s xs)
    (apart (neither_left (eqb x.seat e.seat) (is_in e.seat xs) m))))
    (λ _. priority_cons s e (x ∷ xs)))
  where
    apart : eqb x.seat e.seat ≡ false → eqb x.seat s ≡ true → eqb e.seat s ≡ true → ⊥
    apart q a b = clash (eq-eqb x.seat e.seat (eqb-true x.seat s a ∙ sym (eqb-true e.seat s b))) q

pub priority_without : (s : ℕ) (seats : List Bool) (es : List Entry) → get_or seats s false ≡ false →
    priority_of s (without seats es) ≡ priority_of s es
unfolding without
priority_without s seats [] q = refl
priority_without s seats (x ∷ xs) q =
    by_if (λ (es : List Entry). priority_of s es ≡ priority_of s (x ∷ xs)) (get_or seats x.seat false)
    (λ z. priority_without s seats xs q ∙ sym (priority_cons s x xs ∙ if_no _ _ _ (other z)))
    (λ z. rw (priority_cons s x (without seats xs), priority_cons s x xs, priority_without s seats xs q))
  where
    other : get_or seats x.seat false ≡ true → eqb x.seat s ≡ false
    other z = by_test (eqb x.seat s) (λ y. clash z (ap (λ (n : ℕ). get_or seats n false) (eqb-true x.seat s y) ∙ q)) (λ y. y)

-- where a seat is in a line
abbrev pub place_in : ℕ → List Entry → Place
place_in s es = when is_in s es then in_line (priority_of s es) else away

pub place_out : (s : ℕ) (es : List Entry) → is_in s es ≡ false → place_in s es ≡ away
place_out s es q = if_no _ _ _ q

pub place_at : (s : ℕ) (es : List Entry) → is_in s es ≡ true → place_in s es ≡ in_line (priority_of s es)
place_at s es q = if_yes _ _ _ q

-- what a place in line says
pub in_place : (s p : ℕ) (es : List Entry) → place_in s es ≡ in_line p → (is_in s es ≡ true) × (priority_of s es ≡ p)
in_place s p es q =
    by_test (is_in s es)
    (λ i. (i, let z : in_line (priority_of s es) ≡ in_line p = sym (place_at s es i) ∙ q in cc))
    (λ i. let z : away ≡ in_line p = sym (place_out s es i) ∙ q in let y : ◌≡◌ {A = ℕ} 0 1 = cc in absurd (omega arith))

-- another in the line, or fewer
pub place_enter : (s : ℕ) (e : Entry) (es : List Entry) → is_in e.seat es ≡ false →
    place_in s (enter e es) ≡ (when eqb e.seat s then in_line e.priority else place_in s es)
unfolding when◌then◌else◌
place_enter s e es n =
    by_test (eqb e.seat s) (λ q. rw (in_enter s e es, priority_enter s e es n, q))
    (λ q. rw (in_enter s e es, priority_enter s e es n, q))

pub place_without : (s : ℕ) (seats : List Bool) (es : List Entry) →
    place_in s (without seats es) ≡ (when get_or seats s false then away else place_in s es)
unfolding when◌then◌else◌
place_without s seats es =
    by_test (get_or seats s false)
    (λ q. rw (q, in_without s seats es) (gone (is_in s es) (priority_of s (without seats es)) (get_or seats s false) q))
    (λ q. rw (priority_without s seats es q, in_without s seats es, q) (kept (is_in s es) (priority_of s es)))
  where
    gone : (b : Bool) (n : ℕ) (g : Bool) → g ≡ true → (when b && not g then in_line n else away) ≡ away
    gone true n g q = rw q
    gone false n g q = refl

    kept : (b : Bool) (n : ℕ) → (when b && true then in_line n else away) ≡ (when b then in_line n else away)
    kept true n = refl
    kept false n = refl
