-- Whatever way a step goes, it does one of nine things to the line and the floor, and has the marks of it. Assumes nothing.
use Prim.Native.Nat.{ℕ, ◌≤◌, ◌<◌}
use mathlib.Core.Path.{◌≡◌, refl, ap, sym, ◌∙◌}
use mathlib.Core.Bool.{true, false}
use mathlib.Core.List.{List, [], ◌∷◌}
use native.Mathlib.Omega.{arith}
use lib.Dec.{eqb}
use lib.ListN.{length}
use borrow.Author.Tests.{leb-false}
use Rattle.line.specs.declared.Entry.{Entry}
use Rattle.line.specs.declared.Line.{Line}
use Rattle.line.specs.Line.{waiting, line_of, is_in, enter, without, seat_set, no_seats, priority_of, entry_of}
use Rattle.line.proofs.Laws.{waiting-line_of, without_le, enter-length}
use Rattle.hall.specs.Seats.{only, receives_only}
use Rattle.steps.specs.declared.Phase.{Phase}
use Rattle.steps.specs.declared.Phase.TheVariants.{Stopped}
use Rattle.steps.specs.declared.Core.{Core}
use Rattle.std.specs.Prelude.{Some, None}
use Rattle.steps.specs.declared.Given.TheVariants.{NotGiven, AtOnce, OutOfLine}
use Rattle.steps.specs.declared.Marks.{Marks}
use Rattle.steps.specs.declared.Report.{Report}
use Rattle.steps.specs.Words.{no_marks}
use Rattle.giving.specs.Floor.{holds}
use Rattle.request.specs.Request.{is_idle, waits, full, priority_in}
use Rattle.events.specs.declared.Event.{Event}
use Rattle.events.specs.declared.Outcome.{Outcome}
use Rattle.events.specs.declared.Desk.{Desk}
use Rattle.history.specs.Doing.{Doing}
use Rattle.history.specs.Asking.{an_event, becomes, nobody, asks, asked_by, asked_in, asking, gives_up, stops_call}
use Rattle.ways.specs.Ways.{marks, Unmoved, same_priority, holder}
use Rattle.ways.specs.Ways as way
use Rattle.ways.proofs.Apart.{this_one, not-asked}
use Rattle.ways.proofs.Laws.{six_line, six_holds}
use Rattle.ways.proofs.Phases.{idle_none}
use Rattle.marks.specs.Marks.{Fit}
use Rattle.marks.proofs.InLine.{first_in, one_less}

-- `new` is the core that the step leaves, and `m` its marks
pub data Did (d : Desk) (x : Doing) (new : Core) (m : Marks) : Type 0 where
  rests : ((t p : ℕ) → asking d.hall x ≡ asks t p → Unmoved d.core d.hall t p) → waiting new.line ≡ waiting d.core.line →
      ((s : ℕ) → holds new.phase s ≡ holds d.core.phase s) → m ≡ no_marks → Did d x new m
  gives : (t p : ℕ) → asking d.hall x ≡ asks t p → is_idle d.core.phase ≡ true → waiting new.line ≡ waiting d.core.line →
      ((s : ℕ) → holds new.phase s ≡ eqb t s) → m ≡ marks None no_seats None (AtOnce t) → Did d x new m
  places : (t p : ℕ) → asking d.hall x ≡ asks t p → is_in t (waiting d.core.line) ≡ false → receives_only d.hall t ≡ false →
      waiting new.line ≡ enter (entry_of t p) (waiting d.core.line) → ((s : ℕ) → holds new.phase s ≡ holds d.core.phase s) →
      m ≡ marks (Some t) no_seats None NotGiven → Did d x new m
  shifts : (t p : ℕ) → t < 16 → asking d.hall x ≡ asks t p → is_in t (waiting d.core.line) ≡ true →
      (priority_of t (waiting d.core.line) ≡ p → ⊥) →
      waiting new.line ≡ enter (entry_of t p) (without (only t) (waiting d.core.line)) →
      ((s : ℕ) → holds new.phase s ≡ holds d.core.phase s) →
      m ≡ no_marks → Did d x new m
  strikes : (t : ℕ) → t < 16 → asking d.hall x ≡ nobody → gives_up d.hall x t ≡ true → is_in t (waiting d.core.line) ≡ true →
      waiting new.line ≡ without (only t) (waiting d.core.line) → ((s : ℕ) → holds new.phase s ≡ holds d.core.phase s) →
      m ≡ marks None (only t) None NotGiven → Did d x new m
  passes : (t : ℕ) (e : Entry) (es : List Entry) → asking d.hall x ≡ nobody → holds d.core.phase t ≡ true → e.seat < 16 →
      waiting d.core.line ≡ e ∷ es → waiting new.line ≡ without (only e.seat) (e ∷ es) →
      ((s : ℕ) → holds new.phase s ≡ eqb e.seat s) →
      m ≡ marks None no_seats (Some t) (OutOfLine e.seat) → Did d x new m
  frees : (t : ℕ) → asking d.hall x ≡ nobody → holds d.core.phase t ≡ true → waiting d.core.line ≡ [] →
      waiting new.line ≡ [] →
      ((s : ℕ) → holds new.phase s ≡ false) → m ≡ marks None no_seats (Some t) NotGiven → Did d x new m
  halts : (t : ℕ) → stops_call x ≡ true → holds d.core.phase t ≡ true → waiting new.line ≡ [] → new.phase ≡ Stopped →
      m ≡ marks None (seat_set (waiting d.core.line)) (Some t) NotGiven → Did d x new m
  closes : stops_call x ≡ true → is_idle d.core.phase ≡ true → waiting new.line ≡ [] → new.phase ≡ Stopped →
      m ≡ marks None (seat_set (waiting d.core.line)) None NotGiven → Did d x new m

module _ (d : Desk) (x : Doing) (l : Outcome) (f : Fit d.core d.hall) where
  abbrev line : List Entry
  line = waiting d.core.line

  -- the core has the line and the holder that it had
  same : ((t p : ℕ) → asking d.hall x ≡ asks t p → Unmoved d.core d.hall t p) → l.desk.core.line ≡ d.core.line →
      ((s : ℕ) → holds l.desk.core.phase s ≡ holds d.core.phase s) → l.report.marks ≡ no_marks →
      Did d x l.desk.core l.report.marks
  same u k h m = rests u (ap waiting k) h m

  unasked : asking d.hall x ≡ nobody → (t p : ℕ) → asking d.hall x ≡ asks t p → Unmoved d.core d.hall t p
  unasked a = not-asked (asking d.hall x) a

  this : (t p : ℕ) → asking d.hall x ≡ asks t p → Unmoved d.core d.hall t p → (u v : ℕ) → asking d.hall x ≡ asks u v →
      Unmoved d.core d.hall u v
  this t p a m = this_one (asking d.hall x) t p a m

  by_name : (e : Event) → becomes x ≡ an_event e → asked_by d.hall e ≡ nobody → (t p : ℕ) → asking d.hall x ≡ asks t p →
      Unmoved d.core d.hall t p
  by_name e q a = unasked (ap (asked_in d.hall) q ∙ a)

  core_line : {c : Core} → l.desk.core ≡ c → l.desk.core.line ≡ c.line
  core_line q = ap (λ (y : Core). y.line) q

  core_holds : {c : Core} → l.desk.core ≡ c → (s : ℕ) → holds l.desk.core.phase s ≡ holds c.phase s
  core_holds q s = ap (λ (y : Core). holds y.phase s) q

  report_marks : {r : Report} → l.report ≡ r → l.report.marks ≡ r.marks
  report_marks q = ap (λ (y : Report). y.marks) q

  desk_core : l.desk ≡ d → l.desk.core ≡ d.core
  desk_core q = ap (λ (y : Desk). y.core) q

  short : {es : List Entry} {k : Line} → l.desk.core.line ≡ k → k ≡ line_of es → length es ≤ 15 → waiting l.desk.core.line ≡ es
  short {es} q r n = ap waiting (q ∙ r) ∙ waiting-line_of es n

  emptied : {c : Core} → l.desk.core ≡ c → c.line ≡ line_of [] → waiting l.desk.core.line ≡ []
  emptied q r = short (core_line q) r (omega arith)

  head_in : (e : Entry) (es : List Entry) → line ≡ e ∷ es → is_in e.seat line ≡ true
  head_in e es w = ap (is_in e.seat) w ∙ first_in e es

  pub did : way.Way d x l → Did d x l.desk.core l.report.marks
  unfolding waits full priority_in
  did (way.refuses r u v q m) = same u (core_line (desk_core q)) (core_holds (desk_core q)) (report_marks m.1)
  did (way.grants_holder t p e b a k h q m) = same (this t p a (holder h)) (core_line q) (core_holds q) (report_marks m.1)
  did (way.denies t p n a s u b q m) = same (this t p a u) (core_line (desk_core q)) (core_holds (desk_core q)) (report_marks m.1)
  did (way.gives t p a s i q m) = gives t p a i (ap waiting (core_line q)) (core_holds q) (report_marks m.1)
  did (way.asks_again t p g o a s k z m) = same (this t p a (same_priority k)) (six_line z) (six_holds z) (report_marks m.1)
  did (way.moves t p g o a s b n w k z m) =
      let y = without (only t) line in
      let r : length y < length line = one_less t line s.below w in
      shifts t p s.below a w k (short (six_line z) refl (rw (enter-length (entry_of t p) y) (omega (arith, f.room)))) (six_holds z)
      (report_marks m.1)
  did (way.places t p g o a s b n r w k z m) =
      let y : length line < d.hall.settings.limit = leb-false _ _ k in
      places t p a w r (short (six_line z) refl (rw (enter-length (entry_of t p) line) (omega (arith, f.limit)))) (six_holds z)
      (report_marks m.1)
  did (way.passes t e es a u k w q m) =
      let n : length (e ∷ es) ≤ 15 = rw w at f.room in
      passes t e es a k (f.seats e.seat (head_in e es w)) w
      (short (core_line q) refl (omega (arith, without_le (only e.seat) (e ∷ es)))) (core_holds q) (report_marks m.1)
  did (way.frees t a u k w q m) = frees t a k w (ap waiting (core_line q) ∙ w) (core_holds q) (report_marks m.1)
  did (way.strikes t a g n w q m) =
      strikes t (f.seats t w) a g w (short (core_line q) refl (omega (arith, without_le (only t) line, f.room))) (core_holds q)
      (report_marks m.1)
  did (way.tells s t y k q m) = same (by_name _ y refl) (core_line q) (core_holds q) (report_marks m.1)
  did (way.talks s e b y k q m) =
      same (by_name _ y refl) (core_line q) (λ u. core_holds q u ∙ sym (ap (λ (p : Phase). holds p u) k)) (report_marks m.1)
  did (way.rests a u q m) = same (unasked a) (core_line q) (core_holds q) (report_marks m.1)
  did (way.starts y k q m) =
      same (by_name _ y refl) (core_line q) (λ u. core_holds q u ∙ sym (ap (λ (p : Phase). holds p u) k)) (report_marks m.1)
  did (way.halts t y k q m) = halts t y k (emptied q refl) (ap (λ (c : Core). c.phase) q) (report_marks m.1)
  did (way.closes y i q m) = closes y i (emptied q refl) (ap (λ (c : Core). c.phase) q) (report_marks m.1)
  did (way.revokes e b y k q m) =
      same (by_name _ y refl) (core_line q) (λ u. core_holds q u ∙ sym (ap (λ (p : Phase). holds p u) k)) (report_marks m.1)
  did (way.revokes_again e n y k q m) = same (by_name _ y refl) (core_line q) (core_holds q) (report_marks m.1)
  did (way.grants_again e b y k z q m) = same (by_name _ y refl) (core_line q) (core_holds q) (report_marks m.1)
  did (way.idles_again y i z q m) = same (by_name _ y refl) (core_line q) (core_holds q) (report_marks m.1)
  did (way.idles_on y i q m) =
      same (by_name _ y refl) (core_line q) (λ u. core_holds q u ∙ sym (idle_none d.core.phase u i)) (report_marks m.1)
