-- In every step, for every seat, the marks are what the line and the holder did: shown of each of the nine things that a step can do.
-- Assumes nothing.
use Prim.Native.Nat.{ℕ, ◌+◌}
use mathlib.Core.Path.{◌≡◌, refl, ap, sym, ◌∙◌}
use mathlib.Core.Bool.{Bool, true, false, not, ◌&&◌, ◌||◌}
use mathlib.Core.List.{List, [], ◌∷◌}
use native.Mathlib.Omega.{arith}
use lib.Dec.{eqb}
use lib.ListN.{get_or}
use borrow.Author.Tests.{eqb-true}
use Rattle.words.specs.Choice.{one}
use Rattle.words.specs.Table.{get_d_fill}
use Rattle.words.proofs.Tests.{clash}
use Rattle.line.specs.declared.Entry.{Entry}
use Rattle.line.specs.Line.{waiting, is_in, without, seat_set, no_seats, entry_of}
use Rattle.hall.specs.Seats.{only}
use Rattle.steps.specs.declared.Core.{Core}
use Rattle.steps.specs.declared.Marks.{Marks}
use Rattle.request.specs.Request.{waits}
use Rattle.events.specs.declared.Desk.{Desk}
use Rattle.history.specs.Doing.{Doing, does}
use Rattle.ways.proofs.Walk.{every_way}
use Rattle.ways.proofs.Phases.{holds-one, idle_none}
use Rattle.marks.specs.Marks.{LineCounts, FloorCounts, Fit, EveryStepCounts}
use Rattle.marks.proofs.InLine.{in_nil, in_cons, in_enter, in_without, only_at, in_added}
use Rattle.marks.proofs.Did.{Did, rests, gives, places, shifts, strikes, passes, frees, halts, closes, did}

-- sums of tests: who is taken out and put in again; who comes in; who goes out; the head; all
stays : (x y : Bool) → (x ≡ true → y ≡ true) → one y + 0 ≡ one (x || (y && not x)) + 0 + 0
stays true true g = refl
stays true false g = clash (g refl) refl
stays false true g = refl
stays false false g = refl

comes : (x y : Bool) → (x ≡ true → y ≡ false) → one y + one x ≡ one (x || y) + 0 + 0
comes true true g = clash refl (g refl)
comes true false g = refl
comes false true g = refl
comes false false g = refl

goes : (x y : Bool) → (x ≡ true → y ≡ true) → one y + 0 ≡ one (y && not x) + one x + 0
goes true true g = refl
goes true false g = clash (g refl) refl
goes false true g = refl
goes false false g = refl

heads : (x y : Bool) → one (x || y) + 0 ≡ one ((x || y) && not x) + 0 + one x
heads true y = refl
heads false true = refl
heads false false = refl

all_struck : (x y : Bool) → y ≡ false → one x + 0 ≡ 0 + one (y || x) + 0
all_struck true y e = rw e
all_struck false y e = rw e

module _ (d : Desk) (x : Doing) (new : Core) (m : Marks) (f : Fit d.core d.hall) (s : ℕ) where
  abbrev line : List Entry
  line = waiting d.core.line

  -- what is so of one seat is so of the same seat under another name
  also : (t : ℕ) (b : Bool) → is_in t line ≡ b → eqb t s ≡ true → is_in s line ≡ b
  also t b w q = ap (λ (n : ℕ). is_in n line) (sym (eqb-true t s q)) ∙ w

  emptied : waiting new.line ≡ [] → one (is_in s line) + 0 ≡ one (is_in s (waiting new.line)) + one (get_or (seat_set line) s false) + 0
  unfolding seat_set
  emptied k =
      rw (k, in_nil s, in_added s no_seats line refl f.seats) (all_struck (is_in s line) (get_or no_seats s false) (get_d_fill false 16 s))

  pub line_counts : Did d x new m → LineCounts d.core new m s
  unfolding waits
  line_counts (rests u k h q) = rw (q, k, get_d_fill false 16 s) (omega arith)
  line_counts (gives t p a i k h q) = rw (q, k, get_d_fill false 16 s) (omega arith)
  line_counts (places t p a w r k h q) =
      rw (q, k, get_d_fill false 16 s, in_enter s (entry_of t p) line) (comes (eqb t s) (is_in s line) (also t false w))
  line_counts (shifts t p b a w n k h q) =
      rw (q, k, get_d_fill false 16 s, in_enter s (entry_of t p) (without (only t) line), in_without s (only t) line, only_at t s b)
      (stays (eqb t s) (is_in s line) (also t true w))
  line_counts (strikes t b a g w k h q) =
      rw (q, k, in_without s (only t) line, only_at t s b) (goes (eqb t s) (is_in s line) (also t true w))
  line_counts (passes t e es a k b w n h q) =
      rw (q, n, w, in_without s (only e.seat) (e ∷ es), only_at e.seat s b, get_d_fill false 16 s, in_cons s e es)
      (heads (eqb e.seat s) (is_in s es))
  line_counts (frees t a k w n h q) = rw (q, n, w, get_d_fill false 16 s, in_nil s)
  line_counts (halts t y k n h q) = rw q (emptied n)
  line_counts (closes y i n h q) = rw q (emptied n)

  pub floor_counts : Did d x new m → FloorCounts d.core new m s
  floor_counts (rests u k h q) = rw (q, h s)
  floor_counts (gives t p a i k h q) = rw (q, h s, idle_none d.core.phase s i) (omega arith)
  floor_counts (places t p a w r k h q) = rw (q, h s)
  floor_counts (shifts t p b a w n k h q) = rw (q, h s)
  floor_counts (strikes t b a g w k h q) = rw (q, h s)
  floor_counts (passes t e es a k b w n h q) = rw (q, h s, holds-one d.core.phase t s k) (omega arith)
  floor_counts (frees t a k w n h q) = rw (q, h s, holds-one d.core.phase t s k) (omega arith)
  floor_counts (halts t y k n h q) = rw (q, h, holds-one d.core.phase t s k) (omega arith)
  floor_counts (closes y i n h q) = rw (q, h, idle_none d.core.phase s i)

pub every_step_counts : EveryStepCounts
every_step_counts d x s f =
    let z = did d x (does d x) f (every_way d x) in (
      line_counts d x (does d x).desk.core (does d x).report.marks f s z,
      floor_counts d x (does d x).desk.core (does d x).report.marks f s z,
    )
