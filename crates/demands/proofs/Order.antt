-- Over any history of any fresh desk: of two who wait at one priority, the one in front was placed or moved before the other; so a floor
-- that ends goes to the highest priority, and among equals to the earliest (statement 3). Assumes nothing.
use Prim.Native.Nat.{ℕ, suc, ◌≤◌, ◌<◌}
use mathlib.Core.Path.{◌≡◌, refl, ap, sym, ◌∙◌}
use mathlib.Core.Bool.{Bool, true, false, ◌&&◌, ◌||◌}
use mathlib.Core.List.{List, [], ◌∷◌}
use native.Mathlib.Omega.{arith}
use lib.Dec.{eqb}
use lib.ListN.{length}
use borrow.Author.Tests.{eqb-true, eq-eqb, ne_eqb}
use Rattle.words.specs.Choice.{when◌then◌else◌, if_yes, if_no, by_test, by_if}
use Rattle.words.proofs.Tests.{clash, or_left, or_right, or_else, neither}
use Rattle.line.specs.declared.Entry.{Entry}
use Rattle.line.specs.Line.{waiting, is_in, enter, without, priority_of, entry_of}
use Rattle.hall.specs.Seats.{only}
use Rattle.steps.specs.declared.Core.{Core}
use Rattle.steps.specs.declared.Marks.{Marks}
use Rattle.events.specs.declared.Desk.{Desk}
use Rattle.history.specs.Doing.{Doing, does, Fresh}
use Rattle.history.specs.Asking.{Asking, nobody, asks, asking}
use Rattle.ways.specs.Ways.{Unmoved, quiet}
use Rattle.ways.proofs.Phases.{idle_quiet}
use Rattle.marks.proofs.InLine.{in_nil, in_cons, first_in, behind_in, gone_out}
use Rattle.marks.proofs.Did.{Did, rests, gives, places, shifts, strikes, passes, frees, halts, closes}
use Rattle.reach.specs.Sound.{All, Along, Sorted, Sound}
use Rattle.reach.proofs.InLine.{along_without, along_enter, all_in, without_ok}
use Rattle.demands.specs.Demands.{Row, History, desk_after, log, is_placed, moves, is_moved, in_line, place_of, latest, ComesFirst}
use Rattle.demands.specs.Demands.{GoesToTheFirst}
use Rattle.demands.proofs.Places.{priority_cons, priority_most, place_in, place_at, in_place}
use Rattle.demands.proofs.Counts.{fresh-line, sound_after}
use Rattle.demands.proofs.OfEach.{NoneReceivesOnly, unmoved, moved_by, still_moved, moves_so, goes_to_head}
use Rattle.demands.proofs.Steps.{step-does, none_after, place_worked_out}

-- `at` is a time for each seat: who stands behind at the same priority has a later one
abbrev pub Later : (ℕ → ℕ) → Entry → Entry → Type 0
Later at e x = x.priority ≡ e.priority → at e.seat < at x.seat

abbrev pub InOrder : (ℕ → ℕ) → List Entry → Type 0
InOrder at es = Along (Later at) es

-- who comes in last of all stands behind all of its priority
order_enter : (at : ℕ → ℕ) (e : Entry) (es : List Entry) → Sorted es → ((s : ℕ) → is_in s es ≡ true → at s < at e.seat) → InOrder at es →
    InOrder at (enter e es)
order_enter at e es s h k =
    along_enter (Later at) e es s (all_in (λ x. e.priority ≤ x.priority → Later at x e) es (λ x i _ _. h x.seat i))
    (λ x l q. absurd (omega arith)) k

-- the times of those in line are all that counts
later_same : (at to : ℕ → ℕ) (e : Entry) (es : List Entry) → to e.seat ≡ at e.seat → ((s : ℕ) → is_in s es ≡ true → to s ≡ at s) →
    All (Later at e) es → All (Later to e) es
later_same at to e [] h f k = tt
later_same at to e (x ∷ xs) h f k =
    ((λ q. rw (h, f x.seat (first_in x xs)) (k.0 q)), later_same at to e xs h (λ s i. f s (behind_in s x xs i)) k.1)

order_same : (at to : ℕ → ℕ) (es : List Entry) → ((s : ℕ) → is_in s es ≡ true → to s ≡ at s) → InOrder at es → InOrder to es
order_same at to [] f k = tt
order_same at to (x ∷ xs) f k = (
  later_same at to x xs (f x.seat (first_in x xs)) (λ s i. f s (behind_in s x xs i)) k.0,
  order_same at to xs (λ s i. f s (behind_in s x xs i)) k.1,
)

-- the times after a step
abbrev stamp : Marks → Asking → List Entry → ℕ → (ℕ → ℕ) → ℕ → ℕ
stamp m a es n at s = when is_placed s m || is_moved s a (place_in s es) then suc n else at s

apart : (t s : ℕ) (es : List Entry) → is_in t es ≡ false → is_in s es ≡ true → eqb t s ≡ false
apart t s es w i = by_test (eqb t s) (λ z. clash i (ap (λ (x : ℕ). is_in x es) (sym (eqb-true t s z)) ∙ w)) (λ z. z)

module _ (d : Desk) (x : Doing) (new : Core) (m : Marks) (at : ℕ → ℕ) (n : ℕ) (past : (s : ℕ) → at s ≤ n) (ok : Sound d)
    (none : NoneReceivesOnly d) (k : InOrder at (waiting d.core.line)) where
  abbrev line : List Entry
  line = waiting d.core.line

  abbrev a : Asking
  a = asking d.hall x

  abbrev to : ℕ → ℕ
  to = stamp m a line n at

  kept : (s : ℕ) → is_placed s m ≡ false → is_moved s a (place_in s line) ≡ false → to s ≡ at s
  kept s p q = if_no _ _ _ (neither _ _ p q)

  comes : (t p : ℕ) (es : List Entry) → is_in t es ≡ false → to t ≡ suc n → ((s : ℕ) → eqb t s ≡ false → to s ≡ at s) → Sorted es →
      InOrder at es → InOrder to (enter (entry_of t p) es)
  comes t p es w z f o i =
      order_enter to (entry_of t p) es o (λ s j. rw (f s (apart t s es w j), z) (let b = past s in omega arith))
      (order_same at to es (λ s j. f s (apart t s es w j)) i)

  quiet_order : (es : List Entry) → a ≡ nobody → ((s : ℕ) → is_placed s m ≡ false) → InOrder at es → InOrder to es
  quiet_order es q p i = order_same at to es (λ s _. kept s (p s) (ap (λ (y : Asking). is_moved s y (place_in s line)) q)) i

  still_order : ((t p : ℕ) → a ≡ asks t p → Unmoved d.core d.hall t p) → ((s : ℕ) → is_placed s m ≡ false) → InOrder to line
  still_order u p = order_same at to line (λ s _. kept s (p s) (still_moved line s a (λ t v q. unmoved d ok none t v (u t v q)))) k

  other : (t p s : ℕ) → a ≡ asks t p → eqb t s ≡ false → is_moved s a (place_in s line) ≡ false
  other t p s q z = ap (λ (y : Asking). is_moved s y (place_in s line)) q ∙ moved_by s t p line ∙ ap (λ (b : Bool). b && moves t p line) z

  order_kept : Did d x new m → InOrder to (waiting new.line)
  order_kept (rests u l f e) = rw l (still_order u (λ s. ap (is_placed s) e))
  order_kept (gives t p q i l f e) = rw l (still_order (λ u v _. quiet (idle_quiet d.core.phase i)) (λ s. ap (is_placed s) e))
  order_kept (places t p q w r l f e) =
      rw l (comes t p line w (if_yes _ _ _ (or_left _ _ (ap (is_placed t) e ∙ eq-eqb t t refl)))
      (λ s z. kept s (ap (is_placed s) e ∙ z) (other t p s q z)) ok.core.line.list.sorted k)
  order_kept (shifts t p b q w o l f e) =
      rw l (comes t p (without (only t) line)
      (gone_out t line b)
      (if_yes (is_placed t m || is_moved t a (place_in t line)) (suc n) (at t)
      (or_right (is_placed t m) (is_moved t a (place_in t line))
      (ap (λ (y : Asking). is_moved t y (place_in t line)) q ∙ moved_by t t p line ∙ rw (eq-eqb t t refl, moves_so t p line w o))))
      (λ s z. kept s (ap (is_placed s) e) (other t p s q z))
      (without_ok d.hall (only t) line ok.core.line.list).sorted (along_without (Later at) (only t) line k))
  order_kept (strikes t b q g w l f e) =
      rw l (quiet_order (without (only t) line) q (λ s. ap (is_placed s) e) (along_without (Later at) (only t) line k))
  order_kept (passes t y es q h b w l f e) =
      rw l (quiet_order (without (only y.seat) (y ∷ es)) q (λ s. ap (is_placed s) e)
      (rw w at (along_without (Later at) (only y.seat) line k)))
  order_kept (frees t q h w l f e) = rw l tt
  order_kept (halts t y h l f e) = rw l tt
  order_kept (closes y i l f e) = rw l tt

latest-past : (s : ℕ) (rows : List Row) → latest s rows ≤ length rows
latest-past s [] = omega arith
latest-past s (r ∷ past) =
    let z = latest-past s past in
    by_if (λ (n : ℕ). n ≤ suc (length past)) (is_placed s r.report.marks || is_moved s r.asked (place_of s past)) (λ _. omega arith)
    (λ _. omega arith)

in_order : (start : Desk) → Fresh start → (past : History) →
    InOrder (λ s. latest s (log does start past)) (waiting (desk_after does start past).core.line)
in_order start f [] = rw (fresh-line start f) tt
in_order start f (x ∷ past) =
    let rows = log does start past in
    let d = desk_after does start past in
    let m = (does d x).report.marks in
    let k = sound_after start f past in
    order_same (λ s. stamp m (asking d.hall x) (waiting d.core.line) (length rows) (λ t. latest t rows) s)
    (λ s. latest s (log does start (x ∷ past)))
    (waiting (does d x).desk.core.line)
    (λ s _. rw (place_worked_out start f past s))
    (order_kept d x (does d x).desk.core m (λ s. latest s rows) (length rows) (λ s. latest-past s rows) k (none_after start f past)
    (in_order start f past) (step-does d x k))

later_at : (at : ℕ → ℕ) (e : Entry) (s : ℕ) (es : List Entry) → All (Later at e) es → is_in s es ≡ true → priority_of s es ≡ e.priority →
    at e.seat < at s
later_at at e s [] k i q = clash i (in_nil s)
later_at at e s (x ∷ xs) k i q =
    by_test (eqb x.seat s)
    (λ z. rw (sym (eqb-true x.seat s z)) (k.0 (sym (if_yes _ _ _ z) ∙ sym (priority_cons s x xs) ∙ q)))
    (λ z. later_at at e s xs k.1 (sym (ap (λ (b : Bool). b || is_in s xs) z) ∙ sym (in_cons s x xs) ∙ i)
    (sym (if_no _ _ _ z) ∙ sym (priority_cons s x xs) ∙ q))

-- 3
module _ (rows : List Row) (e : Entry) (es : List Entry) (s : Sorted (e ∷ es)) (k : InOrder (λ s. latest s rows) (e ∷ es))
    (f : (t : ℕ) → place_of t rows ≡ place_in t (e ∷ es)) where
  head_priority : priority_of e.seat (e ∷ es) ≡ e.priority
  head_priority = priority_cons e.seat e es ∙ if_yes _ _ _ (eq-eqb e.seat e.seat refl)

  head_first : ComesFirst rows e.seat
  head_first =
      record {
        priority = e.priority;
        waits = f e.seat ∙ place_at e.seat (e ∷ es) (first_in e es) ∙ ap in_line head_priority;
        highest =
            λ t p q. let z = in_place t p (e ∷ es) (sym (f t) ∙ q) in
            rw (sym z.1) (priority_most e.priority t (e ∷ es) (omega arith, s.0) z.0);
        earliest = λ t q n.
            let z = in_place t e.priority (e ∷ es) (sym (f t) ∙ q) in
            let y : eqb e.seat t ≡ false = ne_eqb e.seat t (λ x. n (sym x)) in
            later_at (λ x. latest x rows) e t es k.0 (or_else _ _ y (sym (in_cons t e es) ∙ z.0))
            (sym (if_no _ _ _ y) ∙ sym (priority_cons t e es) ∙ z.1);
      }

pub goes_to_the_first : GoesToTheFirst does
goes_to_the_first start f past now t u p z i n =
    let d = desk_after does start past in
    let rows = log does start past in
    let k = sound_after start f past in
    let y = in_place u p (waiting d.core.line) (sym (place_worked_out start f past u) ∙ i) in
    let x = goes_to_head d now (does d now).desk.core (does d now).report.marks (step-does d now k) t u z y.0 n in (
      x.0.seat,
      x.3,
      head_first rows x.0 x.1 (rw x.2 at k.core.line.list.sorted) (rw x.2 at (in_order start f past))
          (λ s. place_worked_out start f past s ∙ ap (place_in s) x.2),
    )
