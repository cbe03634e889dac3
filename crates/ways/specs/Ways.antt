-- The ways in which anything that happens to a desk can go (document 01, "The desk"), each with the whole core, answer, messages and marks
-- that it leaves, and what was so when it went that way. They are all: the one statement here, proved in proofs/Walk, which takes the rules
-- apart once. Counting, what reached desks keep, what fits octets and the demands follow from it by cases. Assumes nothing.
use Rattle.std.specs.Prelude.{ℕ, ◌+◌, ◌<◌, ◌≡◌, Bool, true, false, List, [], ◌∷◌, Option, Some, None, Ok, Err}
use Rattle.line.specs.declared.Entry.{Entry}
use Rattle.line.specs.Line.{waiting, line_of, enter, without, seat_set, no_seats, entry_of}
use Rattle.hall.specs.declared.Hall.{Hall}
use Rattle.hall.specs.declared.Refusal.{Refusal}
use Rattle.hall.specs.Seats.{is_present, receives_only, queues, only, everybody, others}
use Rattle.steps.specs.declared.AlsoRuns.{AlsoRuns}
use Rattle.steps.specs.declared.AlsoRuns.TheVariants.{NoMore, T2, T20}
use Rattle.steps.specs.declared.Phase.{Phase}
use Rattle.steps.specs.declared.Phase.TheVariants.{Stopped, Idle, Taken, Revoking}
use Rattle.steps.specs.declared.Core.{Core}
use Rattle.steps.specs.declared.Kind.TheVariants as say
use Rattle.steps.specs.declared.Sending.{Sending}
use Rattle.steps.specs.declared.Given.{Given}
use Rattle.steps.specs.declared.Given.TheVariants.{NotGiven, AtOnce, OutOfLine}
use Rattle.steps.specs.declared.Marks.{Marks}
use Rattle.steps.specs.Words.{◌in_phase◌, ◌with_line◌, ◌counting_c7◌, ◌counting_c20◌, next, numbered, ◌⇒◌, silence, no_marks, empty_report}
use Rattle.steps.specs.Causes.{media_burst_too_long, media_burst_preempted}
use Rattle.giving.specs.Floor.{holds}
use Rattle.request.specs.Request.{is_idle, waits, full, priority_in, moved, info_of}
use Rattle.request.specs.Cut.{info_for}
use Rattle.events.specs.declared.Event.TheVariants.{Start, Expiry, Media, Position}
use Rattle.timers.specs.declared.Timer.TheVariants as timer
use Rattle.events.specs.declared.Outcome.{Outcome}
use Rattle.events.specs.declared.Desk.{Desk}
use Rattle.history.specs.Doing.{Doing, leaves, does}
use Rattle.history.specs.Asking.{an_event, becomes, nobody, asks, asking, gives_up, stops_call}

-- what is done reports two messages and four marks; what is refused, its number alone
abbrev pub marks : Option ℕ → List Bool → Option ℕ → Given → Marks
marks p s e g = record { placed = p; struck = s; ended = e; given = g }

abbrev pub Reports : Outcome → Sending → Sending → Marks → Type 0
Reports l first second m = (l.answer ≡ Ok tt) × (l.report ≡ record { first = first; second = second; marks = m })

abbrev pub RefusedWith : Outcome → Refusal → Type 0
RefusedWith l r = (l.answer ≡ Err r) × (l.report ≡ empty_report)

-- a seat that is heard: one of the sixteen, and present
pub record Sits (h : Hall) (t : ℕ) : Type 0 where
  pub present : is_present h t ≡ true
  pub below : t < 16

-- the floor is somebody's
abbrev pub is_busy : Phase → Bool
is_busy Stopped = false
is_busy (Idle t7) = false
is_busy (Taken e b) = true
is_busy (Revoking e n) = true

-- why a request leaves the line as it was
pub data Unmoved (c : Core) (h : Hall) (t p : ℕ) : Type 0 where
  quiet : is_busy c.phase ≡ false → Unmoved c h t p
  holder : holds c.phase t ≡ true → Unmoved c h t p
  only_receives : receives_only h t ≡ true → Unmoved c h t p
  outside : waits c t ≡ false → Unmoved c h t p
  same_priority : priority_in c.line t ≡ p → Unmoved c h t p

-- 6. What follows 4 and 5, on the core that they leave: Info, if the asker negotiated queueing; then, if it presses and the phase is Taken,
-- Revoke #4 to the holder, Revoking.
pub data Six (c : Core) (h : Hall) (t : ℕ) (new : Core) (first second : Sending) : Type 0 where
  informs : new ≡ c → first ≡ info_for c.line t (queues h t) → second ≡ silence → Six c h t new first second
  presses : (e : Entry) (b : AlsoRuns) → c.phase ≡ Taken e b → new ≡ c in_phase Revoking e media_burst_preempted →
      first ≡ say.Revoke media_burst_preempted ⇒ only e.seat → second ≡ silence → Six c h t new first second
  informs_and_presses : (e : Entry) (b : AlsoRuns) → c.phase ≡ Taken e b → new ≡ c in_phase Revoking e media_burst_preempted →
      first ≡ info_of c.line t ⇒ only t → second ≡ say.Revoke media_burst_preempted ⇒ only e.seat → Six c h t new first second

-- THE WAYS, in the paper's order. Messages go to those who are there afterwards.
pub data Way (d : Desk) (x : Doing) (l : Outcome) : Type 0 where
  -- a refusal: its number, and the desk as it was
  refuses : (r : Refusal) → ((t p : ℕ) → asking d.hall x ≡ asks t p → Unmoved d.core d.hall t p) →
      ((u : ℕ) → x ≡ leaves u → is_present d.hall u ≡ false) → l.desk ≡ d → RefusedWith l r → Way d x l
  -- Request 1: the holder is granted what it has
  grants_holder : (t p : ℕ) (e : Entry) (b : AlsoRuns) → asking d.hall x ≡ asks t p → d.core.phase ≡ Taken e b →
      holds d.core.phase t ≡ true →
      l.desk.core ≡ d.core → Reports l (say.Granted e.priority ⇒ only e.seat) silence no_marks → Way d x l
  -- 2, 3 and 5: a Deny, and the desk as it was
  denies : (t p cause : ℕ) → asking d.hall x ≡ asks t p → Sits d.hall t → Unmoved d.core d.hall t p → cause < 8 →
      l.desk ≡ d → Reports l (say.Deny cause ⇒ only t) silence no_marks → Way d x l
  -- 3: given the floor at once
  gives : (t p : ℕ) → asking d.hall x ≡ asks t p → Sits d.hall t → is_idle d.core.phase ≡ true →
      l.desk.core ≡ numbered (d.core in_phase Taken (entry_of t p) NoMore) →
      Reports l (say.Granted p ⇒ only t) (say.Taken t (next d.core.sequence) ⇒ others l.desk.hall t)
      (marks None no_seats None (AtOnce t)) → Way d x l
  -- 4: asked again at the same priority
  asks_again : (t p : ℕ) (first second : Sending) → asking d.hall x ≡ asks t p → Sits d.hall t → priority_in d.core.line t ≡ p →
      Six d.core d.hall t l.desk.core first second → Reports l first second no_marks → Way d x l
  -- 4: moved
  moves : (t p : ℕ) (first second : Sending) → asking d.hall x ≡ asks t p → Sits d.hall t → is_busy d.core.phase ≡ true →
      holds d.core.phase t ≡ false → waits d.core t ≡ true → (priority_in d.core.line t ≡ p → ⊥) →
      Six (d.core with_line moved d.core.line (entry_of t p)) d.hall t l.desk.core first second → Reports l first second no_marks →
      Way d x l
  -- 5: placed
  places : (t p : ℕ) (first second : Sending) → asking d.hall x ≡ asks t p → Sits d.hall t → is_busy d.core.phase ≡ true →
      holds d.core.phase t ≡ false → receives_only d.hall t ≡ false → waits d.core t ≡ false → full d.core d.hall ≡ false →
      Six (d.core with_line line_of (enter (entry_of t p) (waiting d.core.line))) d.hall t l.desk.core first second →
      Reports l first second (marks (Some t) no_seats None NotGiven) → Way d x l
  -- the floor ends, and the head of the line is given it
  passes : (t : ℕ) (e : Entry) (es : List Entry) → asking d.hall x ≡ nobody → ((u : ℕ) → x ≡ leaves u → u ≡ t) →
      holds d.core.phase t ≡ true →
      waiting d.core.line ≡ e ∷ es →
      l.desk.core ≡ numbered (d.core with_line line_of (without (only e.seat) (e ∷ es)) counting_c20 1 in_phase Taken e T20) →
      Reports l (say.Granted e.priority ⇒ only e.seat)
      (say.Taken e.seat (next d.core.sequence) ⇒ others l.desk.hall e.seat)
      (marks None no_seats (Some t) (OutOfLine e.seat)) → Way d x l
  -- the floor ends with no line
  frees : (t : ℕ) → asking d.hall x ≡ nobody → ((u : ℕ) → x ≡ leaves u → u ≡ t) → holds d.core.phase t ≡ true →
      waiting d.core.line ≡ [] →
      l.desk.core ≡ numbered (d.core in_phase Idle true counting_c7 1) →
      Reports l (say.Idle (next d.core.sequence) ⇒ everybody l.desk.hall) silence (marks None no_seats (Some t) NotGiven) →
      Way d x l
  -- Release, Leave: a waiting seat is struck off
  strikes : (t : ℕ) → asking d.hall x ≡ nobody → gives_up d.hall x t ≡ true → holds d.core.phase t ≡ false →
      waits d.core t ≡ true →
      l.desk.core ≡ d.core with_line line_of (without (only t) (waiting d.core.line)) →
      Reports l silence silence (marks None (only t) None NotGiven) → Way d x l
  -- Queue Position Request
  tells : (s t : ℕ) → becomes x ≡ an_event (Position s) → Sits d.hall t → l.desk.core ≡ d.core →
      Reports l (info_of d.core.line t ⇒ only t) silence no_marks → Way d x l
  -- Media: the holder in Taken
  talks : (s : ℕ) (e : Entry) (b : AlsoRuns) → becomes x ≡ an_event (Media s) → d.core.phase ≡ Taken e b →
      l.desk.core ≡ d.core in_phase Taken e T2 →
      Reports l silence silence no_marks → Way d x l
  -- nothing more is done: Media of the holder in Revoking; Leave of one who neither holds nor waits; Join
  rests : asking d.hall x ≡ nobody → ((u : ℕ) → x ≡ leaves u → (holds d.core.phase u ≡ false) × (waits d.core u ≡ false)) →
      l.desk.core ≡ d.core → Reports l silence silence no_marks → Way d x l
  -- Start
  starts : becomes x ≡ an_event Start → d.core.phase ≡ Stopped → l.desk.core ≡ numbered (d.core in_phase Idle true counting_c7 1) →
      Reports l (say.Idle (next d.core.sequence) ⇒ everybody l.desk.hall) silence no_marks → Way d x l
  -- Stop, T4: in Taken and Revoking the holder's floor ends, in Idle nobody's
  halts : (t : ℕ) → stops_call x ≡ true → holds d.core.phase t ≡ true → l.desk.core ≡ d.core in_phase Stopped with_line line_of [] →
      Reports l silence silence (marks None (seat_set (waiting d.core.line)) (Some t) NotGiven) → Way d x l
  closes : stops_call x ≡ true → is_idle d.core.phase ≡ true → l.desk.core ≡ d.core in_phase Stopped with_line line_of [] →
      Reports l silence silence (marks None (seat_set (waiting d.core.line)) None NotGiven) → Way d x l
  -- T2
  revokes : (e : Entry) (b : AlsoRuns) → becomes x ≡ an_event (Expiry (Some timer.T2)) → d.core.phase ≡ Taken e b →
      l.desk.core ≡ d.core in_phase Revoking e media_burst_too_long →
      Reports l (say.Revoke media_burst_too_long ⇒ only e.seat) silence no_marks → Way d x l
  -- T8
  revokes_again : (e : Entry) (cause : ℕ) → becomes x ≡ an_event (Expiry (Some timer.T8)) → d.core.phase ≡ Revoking e cause →
      l.desk.core ≡ d.core →
      Reports l (say.Revoke cause ⇒ only e.seat) silence no_marks → Way d x l
  -- T20 below its limit; at the limit the floor ends
  grants_again : (e : Entry) (b : AlsoRuns) → becomes x ≡ an_event (Expiry (Some timer.T20)) → d.core.phase ≡ Taken e b →
      d.core.c20 < d.hall.settings.c20 →
      l.desk.core ≡ d.core counting_c20 (d.core.c20 + 1) → Reports l (say.Granted e.priority ⇒ only e.seat) silence no_marks →
      Way d x l
  -- T7 below its limit, and at it
  idles_again : becomes x ≡ an_event (Expiry (Some timer.T7)) → is_idle d.core.phase ≡ true → d.core.c7 < d.hall.settings.c7 →
      l.desk.core ≡ numbered (d.core counting_c7 (d.core.c7 + 1)) →
      Reports l (say.Idle (next d.core.sequence) ⇒ everybody l.desk.hall) silence no_marks → Way d x l
  idles_on : becomes x ≡ an_event (Expiry (Some timer.T7)) → is_idle d.core.phase ≡ true → l.desk.core ≡ d.core in_phase Idle false →
      Reports l silence silence no_marks → Way d x l

-- whatever happens to whatever desk goes one of these ways
abbrev pub EveryWay : Type 0
EveryWay = (d : Desk) (x : Doing) → Way d x (does d x)
