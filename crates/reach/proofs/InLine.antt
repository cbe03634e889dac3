-- A line stays highest first, with nobody twice, when an entry goes in and when seats are struck off. Assumes nothing.
use Prim.Native.Nat.{ℕ, ◌≤◌, ◌<◌}
use mathlib.Core.Path.{◌≡◌, ap, sym, ◌∙◌}
use mathlib.Core.Bool.{Bool, true, false, ◌||◌}
use mathlib.Core.List.{List, [], ◌∷◌}
use native.Mathlib.Omega.{arith}
use lib.Dec.{eqb, leb}
use lib.ListN.{length, get_or, get_or-eq_default}
use borrow.Author.Tests.{eqb-true, eq-eqb, leb-true, leb-false}
use Rattle.words.specs.Choice.{by_test, by_if}
use Rattle.words.specs.Below.{and_left}
use Rattle.words.proofs.Tests.{clash, or_else, neither_left, neither_right}
use Rattle.line.specs.declared.Entry.{Entry}
use Rattle.line.specs.Line.{waiting, line_of, is_in, enter, without}
use Rattle.line.proofs.Laws.{waiting-line_of, without_le, enter_nil, enter_cons, enter-length}
use Rattle.hall.specs.declared.Hall.{Hall}
use Rattle.hall.specs.Seats.{is_present}
use Rattle.marks.proofs.InLine.{in_nil, in_cons, first_in, behind_in, in_enter, in_without}
use Rattle.reach.specs.Sound.{All, Along, AtMost, Sorted, Once, ListOk, LineOk, HallOk}

-- what is so of all, or of each to all behind it, stays so when seats are struck off
module _ (P : Entry → Type 0) where
  pub all_without : (seats : List Bool) (es : List Entry) → All P es → All P (without seats es)
  unfolding without
  all_without seats [] a = tt
  all_without seats (e ∷ es) a =
      by_if (All P) (get_or seats e.seat false) (λ _. all_without seats es a.1) (λ _. (a.0, all_without seats es a.1))

  -- and when an entry goes in of which it is so too
  pub all_enter : (e : Entry) (es : List Entry) → P e → All P es → All P (enter e es)
  all_enter e [] h a = rw (enter_nil e) (h, tt)
  all_enter e (x ∷ xs) h a =
      rw (enter_cons e x xs) (by_if (All P) (leb e.priority x.priority) (λ _. (a.0, all_enter e xs h a.1)) (λ _. (h, a)))

  pub all_more : (Q : Entry → Type 0) (es : List Entry) → ((e : Entry) → P e → Q e) → All P es → All Q es
  all_more Q [] f a = tt
  all_more Q (e ∷ es) f a = (f e a.0, all_more Q es f a.1)

module _ (R : Entry → Entry → Type 0) where
  pub along_without : (seats : List Bool) (es : List Entry) → Along R es → Along R (without seats es)
  unfolding without
  along_without seats [] a = tt
  along_without seats (e ∷ es) a =
      by_if (Along R) (get_or seats e.seat false) (λ _. along_without seats es a.1)
      (λ _. (all_without (R e) seats es a.0, along_without seats es a.1))

  -- an entry goes behind all of at least its priority, and before all others
  pub along_enter : (e : Entry) (es : List Entry) → Sorted es → All (λ x. e.priority ≤ x.priority → R x e) es →
      ((x : Entry) → x.priority < e.priority → R e x) → Along R es → Along R (enter e es)
  along_enter e [] s f g a = rw (enter_nil e) (tt, tt)
  along_enter e (x ∷ xs) s f g a =
      rw (enter_cons e x xs)
      (by_if (Along R) (leb e.priority x.priority)
      (λ q. (all_enter (R x) e xs (f.0 (leb-true _ _ q)) a.0, along_enter e xs s.1 f.1 g a.1))
      (λ q.
      let b : x.priority < e.priority = leb-false e.priority x.priority q in
      ((g x b, all_more (AtMost x.priority) (R e) xs (λ y l. g y (omega arith)) s.0), a)))

-- what is so of each whose seat is in line is so of all
pub all_in : (P : Entry → Type 0) (es : List Entry) → ((e : Entry) → is_in e.seat es ≡ true → P e) → All P es
all_in P [] f = tt
all_in P (e ∷ es) f = (f e (first_in e es), all_in P es (λ x i. f x (behind_in x.seat e es i)))

sorted_enter : (e : Entry) (es : List Entry) → Sorted es → Sorted (enter e es)
sorted_enter e es s =
    along_enter (λ y x. AtMost y.priority x) e es s (all_in (λ x. e.priority ≤ x.priority → AtMost x.priority e) es (λ x _ l. l))
    (λ x l. omega arith) s

once_enter : (e : Entry) (es : List Entry) → is_in e.seat es ≡ false → Once es → Once (enter e es)
once_enter e [] n a = rw (enter_nil e) (in_nil e.seat, tt)
once_enter e (x ∷ xs) n a =
    let m : (eqb x.seat e.seat || is_in e.seat xs) ≡ false = sym (in_cons e.seat x xs) ∙ n in
    rw (enter_cons e x xs)
    (by_if Once (leb e.priority x.priority)
    (λ _. (
      in_enter x.seat e xs ∙ rw a.0 (flip (eqb x.seat e.seat) (is_in e.seat xs) m),
      once_enter e xs (neither_right (eqb x.seat e.seat) (is_in e.seat xs) m) a.1,
    ))
    (λ _. (n, a)))
  where
    flip : (p q : Bool) → (p || q) ≡ false → (eqb e.seat x.seat || false) ≡ false
    flip p q h =
        by_test (eqb e.seat x.seat)
        (λ t. clash (eq-eqb x.seat e.seat (sym (eqb-true e.seat x.seat t)))
        (neither_left (eqb x.seat e.seat) (is_in e.seat xs) (sym (in_cons e.seat x xs) ∙ n))) (λ t. rw t)

once_without : (seats : List Bool) (es : List Entry) → Once es → Once (without seats es)
unfolding without
once_without seats [] a = tt
once_without seats (e ∷ es) a =
    by_if Once (get_or seats e.seat false) (λ _. once_without seats es a.1)
    (λ _. (in_without e.seat seats es ∙ rw a.0, once_without seats es a.1))

-- a seat that a column says yes of is one of its seats
pub within-column : (l : List Bool) (s : ℕ) → get_or l s false ≡ true → s < length l
within-column l s q =
    by_test (leb (length l) s) (λ t. clash q (get_or-eq_default l false (leb-true (length l) s t))) (λ t. leb-false (length l) s t)

module _ (h : Hall) where
  pub none_ok : ListOk h []
  none_ok = record { sorted = tt; once = tt; within = omega arith; here = λ s q. clash q (in_nil s) }

  pub without_ok : (seats : List Bool) (es : List Entry) → ListOk h es → ListOk h (without seats es)
  without_ok seats es k =
      record {
        sorted = along_without _ seats es k.sorted;
        once = once_without seats es k.once;
        within = omega (arith, without_le seats es, k.within);
        here = λ s q. k.here s (and_left (is_in s es) _ (sym (in_without s seats es) ∙ q));
      }

  pub enter_ok : (e : Entry) (es : List Entry) → is_in e.seat es ≡ false → length es < h.settings.limit → is_present h e.seat ≡ true →
      ListOk h es → ListOk h (enter e es)
  enter_ok e es n l p k =
      record {
        sorted = sorted_enter e es k.sorted;
        once = once_enter e es n k.once;
        within = rw (enter-length e es) (omega arith);
        here = λ s q. by_test (eqb e.seat s)
            (λ t. ap (is_present h) (sym (eqb-true e.seat s t)) ∙ p)
            (λ t. k.here s (or_else (eqb e.seat s) (is_in s es) t (sym (in_enter s e es) ∙ q)));
      }

  -- the line of a list that is right
  pub line_ok : HallOk h → (es : List Entry) → ListOk h es → LineOk h (line_of es)
  line_ok s es k =
      let w : waiting (line_of es) ≡ es = waiting-line_of es (omega (arith, k.within, s.limit)) in
      record { list = rw w k; behind = ap line_of (sym w) }

  -- a present seat is one of the sixteen
  pub present_below : HallOk h → (s : ℕ) → is_present h s ≡ true → s < 16
  present_below k s q = omega (arith, within-column h.present s q, k.seats)
