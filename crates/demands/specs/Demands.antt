-- The mission's third demand: over any sequence of events from any fresh desk, made or loaded, nobody drops out unseen. First what a
-- history is, then how it is counted, then the five statements. Nothing is assumed but a fresh desk.
--
-- Where the demands are proved:
-- 1, 2 of each call and each step: the promises above the functions, each proved in its crate. Packets: reading, writing, and again for
-- what
-- is written and read back. The desk: request, giving, timers, firing, events, packet_events; Thursday's exercise and the idle versions:
-- exercise.
-- 3 of any sequence of steps: the statements below. 1, 4 and the first half of 5 in proofs/Counts, 2 and the rest of 5 in proofs/Steps,
--         3 in proofs/Order. The same of the library that C programs call, from its promises: crate library.
use Rattle.std.specs.Prelude.{ℕ, suc, ◌+◌, ◌≤◌, ◌<◌, ◌≡◌, Bool, true, false, not, ◌&&◌, ◌||◌, List, [], ◌∷◌, eqb, length, get_or}
use Rattle.std.specs.Prelude.{Option, Some, None}
use Rattle.words.specs.Choice.{when◌then◌else◌, one}
use Rattle.line.specs.declared.Entry.{Entry}
use Rattle.line.specs.Line.{waiting, is_in, enter, without, priority_of, entry_of}
use Rattle.hall.specs.declared.Hall.{Hall}
use Rattle.hall.specs.Seats.{only}
use Rattle.steps.specs.declared.Core.{Core}
use Rattle.steps.specs.declared.Given.{Given}
use Rattle.steps.specs.declared.Given.TheVariants.{NotGiven, AtOnce, OutOfLine}
use Rattle.steps.specs.declared.Marks.{Marks}
use Rattle.steps.specs.declared.Report.{Report}
use Rattle.giving.specs.Floor.{holds}
use Rattle.request.specs.Request.{waits}
use Rattle.events.specs.declared.Outcome.{Outcome}
use Rattle.timers.specs.Timers.{is_stopped}
use Rattle.events.specs.declared.Desk.{Desk}
use Rattle.history.specs.Doing.{Doing, Fresh}
use Rattle.history.specs.Asking.{Asking, nobody, asks, asking, gives_up, stops_call}
use Rattle.marks.specs.Marks.{is_seat, is_given, is_out}

-- WHAT HAPPENS
-- Octets come in as a packet, whatever they are and whether they are read or not; or anything else happens: media, a join, a leave, start,
-- stop, a timer. A server is whatever makes of it an answer, the desk afterwards and a report; the rules' own is `does`.
abbrev pub Server : Type 0
Server = Desk → Doing → Outcome

-- A history is what happened, the latest first, to a desk that was fresh.
abbrev pub History : Type 0
History = List Doing

abbrev pub desk_after : Server → Desk → History → Desk
desk_after server start [] = start
desk_after server start (x ∷ past) = (server (desk_after server start past) x).desk

-- THE LOG OF AN EVENING
-- A row for each step, the latest first: what was asked, and what was reported. The rest of the desk is not on it.

pub record Row : Type 0 where
  pub asked : Asking
  pub report : Report

abbrev pub row_by : Server → Desk → Doing → Row
row_by server d x = record { asked = asking d.hall x; report = (server d x).report }

abbrev pub log : Server → Desk → History → List Row
log server start [] = []
log server start (x ∷ past) = row_by server (desk_after server start past) x ∷ log server start past

-- COUNTING, by the marks alone

abbrev pub is_placed : ℕ → Marks → Bool
is_placed s m = is_seat m.placed s

abbrev pub is_struck : ℕ → Marks → Bool
is_struck s m = get_or m.struck s false

abbrev pub is_given_out : ℕ → Marks → Bool
is_given_out s m = is_out m.given s

abbrev pub is_given_any : ℕ → Marks → Bool
is_given_any s m = is_given m.given s

abbrev pub is_ended : ℕ → Marks → Bool
is_ended s m = is_seat m.ended s

abbrev pub times : (Marks → Bool) → List Row → ℕ
times test [] = 0
times test (r ∷ rows) = one (test r.report.marks) + times test rows

-- how often a seat stands in a line
abbrev pub standing : ℕ → List Entry → ℕ
standing s [] = 0
standing s (e ∷ es) = one (eqb e.seat s) + standing s es

-- THE LINE AND THE HOLDER, by the marks and the requests alone

-- "a changed priority moves it": a request of one who waits, at another priority
unfoldable pub moves : ℕ → ℕ → List Entry → Bool
moves s p es = is_in s es && not (eqb (priority_of s es) p)

-- who is placed comes in; who is moved goes out and comes in
abbrev pub comes_into : Asking → Option ℕ → List Entry → List Entry
comes_into nobody m es = es
comes_into (asks s p) (Some t) es = enter (entry_of s p) es
comes_into (asks s p) None es = when moves s p es then enter (entry_of s p) (without (only s) es) else es

-- who is given the floor out of the line goes out
abbrev pub goes_out : Given → List Entry → List Entry
goes_out NotGiven es = es
goes_out (AtOnce s) es = es
goes_out (OutOfLine s) es = without (only s) es

unfoldable pub changed : Row → List Entry → List Entry
changed r es = comes_into r.asked r.report.marks.placed (goes_out r.report.marks.given (without r.report.marks.struck es))

abbrev pub line_from : List Row → List Entry
line_from [] = []
line_from (r ∷ past) = changed r (line_from past)

abbrev pub held_after : Given → Option ℕ → Option ℕ → Option ℕ
held_after (AtOnce s) ended holder = Some s
held_after (OutOfLine s) ended holder = Some s
held_after NotGiven (Some t) holder = None
held_after NotGiven None holder = holder

abbrev pub holder_from : List Row → Option ℕ
holder_from [] = None
holder_from (r ∷ past) = held_after r.report.marks.given r.report.marks.ended (holder_from past)

-- WHO WAITS AND AT WHICH PRIORITY, by the marks and the requests alone; nothing is asked of an order
pub data Place : Type 0 where
  away : Place
  in_line : ℕ → Place

-- who is placed waits at the priority of its request
abbrev pub placed_at : Asking → Place
placed_at nobody = away
placed_at (asks t p) = in_line p

-- who waits and asks again waits at what it asks for now
abbrev pub asked_again : ℕ → Asking → Place → Place
asked_again s nobody w = w
asked_again s (asks t p) away = away
asked_again s (asks t p) (in_line q) = when eqb t s then in_line p else in_line q

unfoldable pub place_after : ℕ → Asking → Marks → Place → Place
place_after s a m w =
    when is_struck s m || is_given_out s m then away
    else when is_placed s m then placed_at a
    else asked_again s a w

abbrev pub place_of : ℕ → List Row → Place
place_of s [] = away
place_of s (r ∷ past) = place_after s r.asked r.report.marks (place_of s past)

-- THE LATEST PLACING OR MOVE of a seat: the number of the step, the first step being 1. "a changed priority moves it"
abbrev pub is_moved : ℕ → Asking → Place → Bool
is_moved s nobody w = false
is_moved s (asks t p) away = false
is_moved s (asks t p) (in_line q) = eqb t s && not (eqb q p)

abbrev pub latest : ℕ → List Row → ℕ
latest s [] = 0
latest s (r ∷ past) =
    when is_placed s r.report.marks || is_moved s r.asked (place_of s past) then suc (length past) else latest s past

-- WHY A SEAT MAY BE STRUCK OFF: its own release, its own leave, or the call stops

abbrev pub reason : Hall → Doing → ℕ → Bool
reason h x s = gives_up h x s || stops_call x

-- THE FIVE STATEMENTS
-- Each is of a server, any fresh desk, any history and any seat number: proved of the rules' server `does`, and refuted of faulty ones
-- (crate `faults`). `desk` and `rows` are the desk and the log after the history; in 2, 3 and the first half of 5, `now` is what happens
-- next and `new` what comes of it.

-- 1. "times placed in line = times given the floor out of the line + times struck off + 1 if it waits now"; and it waits at most once
abbrev pub NobodyDropsOut : Server → Type 0
NobodyDropsOut server = (start : Desk) → Fresh start → (past : History) (s : ℕ) →
    let desk = desk_after server start past in
    let rows = log server start past in
    (times (is_placed s) rows ≡ times (is_given_out s) rows + times (is_struck s) rows + one (waits desk.core s))
    × (standing s (waiting desk.core.line) ≡ one (waits desk.core s))

-- 2. "Struck off only in a step where it releases, leaves, or the call stops."
abbrev pub StruckForAReason : Server → Type 0
StruckForAReason server = (start : Desk) → Fresh start → (past : History) (now : Doing) (s : ℕ) →
    let desk = desk_after server start past in
    let new = server desk now in
    is_struck s new.report.marks ≡ true → reason desk.hall now s ≡ true

-- 3. "A floor that ends with a line waiting, the call going on, goes to the highest priority, and among equals to the one whose latest
-- placing or move came first." Who waits, and at which priority, is read off the log.
pub record ComesFirst (rows : List Row) (s : ℕ) : Type 0 where
  pub priority : ℕ
  pub waits : place_of s rows ≡ in_line priority
  pub highest : (t p : ℕ) → place_of t rows ≡ in_line p → p ≤ priority
  pub earliest : (t : ℕ) → place_of t rows ≡ in_line priority → (t ≡ s → ⊥) → latest s rows < latest t rows

abbrev pub GoesToTheFirst : Server → Type 0
GoesToTheFirst server = (start : Desk) → Fresh start → (past : History) (now : Doing) (t u p : ℕ) →
    let rows = log server start past in
    let new = server (desk_after server start past) now in
    is_ended t new.report.marks ≡ true → place_of u rows ≡ in_line p → is_stopped new.desk.core.phase ≡ false →
    (s : ℕ) × (new.report.marks.given ≡ OutOfLine s) × ComesFirst rows s

-- 4. "Times given = times ended + 1 for the seat that holds it."; and at most one seat holds it
abbrev pub GivenAndEnded : Server → Type 0
GivenAndEnded server = (start : Desk) → Fresh start → (past : History) (s : ℕ) →
    let desk = desk_after server start past in
    let rows = log server start past in
    (times (is_given_any s) rows ≡ times (is_ended s) rows + one (holds desk.core.phase s))
    × ((t : ℕ) → holds desk.core.phase s ≡ true → holds desk.core.phase t ≡ true → s ≡ t)

-- 5. Nobody enters the line, leaves it, gets the floor or loses it without its mark; and the line and the holder now can be worked out from
-- the marks and the requests alone.
pub record Marked (old new : Core) (m : Marks) (s : ℕ) : Type 0 where
  pub enters : waits old s ≡ false → waits new s ≡ true → is_placed s m ≡ true
  pub goes : waits old s ≡ true → waits new s ≡ false → (is_struck s m || is_given_out s m) ≡ true
  pub gets : holds old.phase s ≡ false → holds new.phase s ≡ true → is_given_any s m ≡ true
  pub loses : holds old.phase s ≡ true → holds new.phase s ≡ false → is_ended s m ≡ true

abbrev pub NothingUnseen : Server → Type 0
NothingUnseen server = (start : Desk) → Fresh start → (past : History) (now : Doing) (s : ℕ) →
    let desk = desk_after server start past in
    let new = server desk now in
    Marked desk.core new.desk.core new.report.marks s

abbrev pub WorkedOut : Server → Type 0
WorkedOut server = (start : Desk) → Fresh start → (past : History) →
    let desk = desk_after server start past in
    let rows = log server start past in
    (waiting desk.core.line ≡ line_from rows)
    × ((s : ℕ) → holds desk.core.phase s ≡ is_seat (holder_from rows) s)
