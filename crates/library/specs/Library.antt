-- THE MISSION'S THIRD DEMAND, OF THE LIBRARY THAT C PROGRAMS LINK: over any sequence of calls of the exported functions on one desk's
-- octets, made or loaded, nobody drops out unseen. What is counted are the marks in the octets of the reports that the calls left; who
-- waits and who holds the floor now is what `floor_screen` and `floor_holder` show. Of the functions nothing is used but what they promise
-- (floor/specs/Promises).
--
-- First a run and its log, then a look at the desk, then the five statements, and at the end the demand. All is proved in proofs/Library
-- (and DoneIsARow in proofs/Rows), from the same statements of the rules' desk (demands/specs/Demands), whose counting is used here too.
-- Assumes nothing.
use Rattle.std.specs.Prelude.{ℕ, suc, ◌+◌, ◌*◌, ◌≤◌, ◌<◌, ◌≡◌, Bool, true, false, ◌||◌, List, [], ◌∷◌, ◌++◌, ℤ, pos, negsuc, length, get_or}
use Rattle.std.specs.Prelude.{take, Option, Some, None}
use Rattle.report_octets.specs.Places.{report_size}
use Rattle.words.specs.Choice.{one}
use Rattle.octets.specs.Octets.{Octets}
use Rattle.signed.specs.Signed.{Succeeds, Refuses}
use Rattle.line.specs.declared.Entry.{Entry}
use Rattle.line.specs.Line.{is_in}
use Rattle.hall.specs.declared.Settings.{Settings}
use Rattle.hall.specs.declared.Hall.{Hall}
use Rattle.steps.specs.declared.Given.TheVariants.{OutOfLine}
use Rattle.steps.specs.declared.Marks.{Marks}
use Rattle.steps.specs.declared.Report.{Report}
use Rattle.steps.specs.Words.{no_marks, empty_report}
use Rattle.line.specs.Line.{entry_of}
use Rattle.events.specs.declared.Desk.{Desk}
use Rattle.history.specs.Doing.{Doing, does, Fresh}
use Rattle.history.specs.Asking.{asking}
use Rattle.marks.specs.Marks.{is_seat}
use Rattle.demands.specs.Demands.{History, desk_after, Row, log, is_placed, is_struck, is_given_out, is_given_any, is_ended, times}
use Rattle.demands.specs.Demands.{standing}
use Rattle.demands.specs.Demands.{line_from, holder_from, place_of, in_line, reason, ComesFirst}
use Rattle.desk_octets.specs.Form.{hall_at}
use Rattle.desk_octets.specs.Columns.{column}
use Rattle.report_octets_laws.specs.Reported.{report_in}
use Rattle.floor.specs.Promises.{MakePromise, LoadPromise, ScreenPromise, PhasePromise, HolderPromise}
use Rattle.floor_laws.specs.Kept.{Holds, desk_in, Act, floor_join, floor_leave, floor_start, floor_stop, floor_packet, floor_media}
use Rattle.floor_laws.specs.Kept.{floor_timer, Call, Promised, ActFits, doings}

-- A RUN AND ITS LOG

-- what a report's octets say; a join has no report
abbrev pub report_by : Act → List ℕ → Report
report_by (floor_join o x h q l) r = empty_report
report_by (floor_leave s) r = report_in r
report_by floor_start r = report_in r
report_by floor_stop r = report_in r
report_by (floor_packet p) r = report_in r
report_by (floor_media x) r = report_in r
report_by (floor_timer t) r = report_in r

-- A call that was done brings a row: what was asked, a seat and its priority, as the desk reads the packet; and what the 24 octets of the
-- report say. A call that was refused brings none.
abbrev pub rows_of : Hall → Report → List Doing → List Row
rows_of h r [] = []
rows_of h r (y ∷ ys) = record { asked = asking h y; report = r } ∷ rows_of h r ys

abbrev pub rows_by : List ℕ → Call → List Row
rows_by d x = rows_of (hall_at d) (report_by x.act (take report_size x.report)) (doings x)

-- every call that is done brings one row
abbrev pub DoneIsARow : Type 0
DoneIsARow = (d : List ℕ) (x : Call) → Promised d x → Succeeds x.answer → (r : Row) × (rows_by d x ≡ r ∷ [])

-- Calls on one desk's octets: those that stand there now, and the log, the latest row first. A desk that is made or loaded, in the first
-- 1,200 octets of a room, begins a new log, whatever stood there and was done before; a make or a load that is refused is no row either.
-- `called` is join, leave, start, stop, packet, media and timer, each with its promise; the other functions only read a desk. Numbers from
-- C are as its types hold them.
pub data Ran : List ℕ → List Row → Type 0 where
  made : (room : List ℕ) (g : Settings) (n : ℤ) (room' : List ℕ) → MakePromise room g n room' → Succeeds n → g.ssrc < 4294967296 →
      Ran (desk_in room') []
  loaded : (room sheet : List ℕ) (n : ℤ) (room' : List ℕ) → LoadPromise room sheet n room' → Succeeds n → Octets sheet →
      Ran (desk_in room') []
  called : {d : List ℕ} {rows : List Row} → Ran d rows → (x : Call) → Promised d x → ActFits x.act → Ran x.desk (rows_by d x ++ rows)
  not_made : {d : List ℕ} {rows : List Row} → Ran d rows →
      (g : Settings) (n : ℤ) (d' : List ℕ) → MakePromise d g n d' → Refuses n → Ran d' rows
  not_loaded : {d : List ℕ} {rows : List Row} → Ran d rows →
      (sheet : List ℕ) (n : ℤ) (d' : List ℕ) → LoadPromise d sheet n d' → Refuses n → Ran d' rows

-- WHAT A RUN COMES TO: octets in the form; they stand for the desk that the rules leave of a fresh one, and the log is what they report

pub record Reached (d : List ℕ) (rows : List Row) : Type 0 where
  pub start : Desk
  pub is_fresh : Fresh start
  pub past : History
  pub holds : Holds d (desk_after does start past)
  pub same : rows ≡ log does start past

abbrev pub EveryRunReached : Type 0
EveryRunReached = (d : List ℕ) (rows : List Row) → Ran d rows → Reached d rows

-- A LOOK AT THE DESK: the line, by `floor_screen` with room for it, and the holder, by `floor_holder`

pub record Look (d : List ℕ) : Type 0 where
  pub room : List ℕ
  pub count : ℕ
  pub shown : List ℕ
  pub answer : ℤ
  pub screen : ScreenPromise d room (pos count) shown
  pub holder : HolderPromise d answer

-- two octets an entry; the holder's seat, or less than 0
abbrev pub entries_in : List ℕ → ℕ → List Entry
entries_in s n = column (λ i. entry_of (get_or s (2 * i) 0) (get_or s (2 * i + 1) 0)) 0 n

abbrev pub seat_answered : ℤ → Option ℕ
seat_answered (pos n) = Some n
seat_answered (negsuc n) = None

abbrev pub line : {d : List ℕ} → Look d → List Entry
line l = entries_in l.shown l.count

abbrev pub holder : {d : List ℕ} → Look d → Option ℕ
holder l = seat_answered l.answer

-- 30 octets are room enough for any line
abbrev pub RoomEnough : Type 0
RoomEnough = (d : List ℕ) (rows : List Row) → Ran d rows → (room : List ℕ) (a : ℤ) (room' : List ℕ) → ScreenPromise d room a room' →
    30 ≤ length room → (n : ℕ) × (a ≡ pos n)

-- ONE CALL MORE: its marks, which a refused one has not, and the reason it gives to strike a seat off

abbrev pub marks_of : List Row → Marks
marks_of [] = no_marks
marks_of (r ∷ rows) = r.report.marks

abbrev pub marks_by : List ℕ → Call → Marks
marks_by d x = marks_of (rows_by d x)

abbrev pub reason_in : Hall → List Doing → ℕ → Bool
reason_in h [] s = false
reason_in h (y ∷ ys) s = reason h y s

-- THE FIVE STATEMENTS, of any run, any look and any seat number; of any call more, with a look before it and one after it

-- 1. "times placed in line = times given the floor out of the line + times struck off + 1 if it waits now"; and it waits at most once
abbrev pub NobodyDropsOut : Type 0
NobodyDropsOut = (d : List ℕ) (rows : List Row) → Ran d rows → (now : Look d) (s : ℕ) →
    (times (is_placed s) rows ≡ times (is_given_out s) rows + times (is_struck s) rows + one (is_in s (line now)))
    × (standing s (line now) ≡ one (is_in s (line now)))

-- 2. "Struck off only in a step where it releases, leaves, or the call stops."
abbrev pub StruckForAReason : Type 0
StruckForAReason = (d : List ℕ) (rows : List Row) → Ran d rows → (x : Call) → Promised d x → ActFits x.act → (s : ℕ) →
    is_struck s (marks_by d x) ≡ true → reason_in (hall_at d) (doings x) s ≡ true

-- 3. "A floor that ends with a line waiting, the call going on, goes to the highest priority, and among equals to the one whose latest
-- placing or move came first." Who waits, and at which priority, is read off the log; `floor_phase` answers more than 0 while the call goes
-- on.
abbrev pub GoesToTheFirst : Type 0
GoesToTheFirst = (d : List ℕ) (rows : List Row) → Ran d rows → (x : Call) → Promised d x → ActFits x.act → (t u p k : ℕ) →
    is_ended t (marks_by d x) ≡ true → place_of u rows ≡ in_line p → PhasePromise x.desk (pos (suc k)) →
    (s : ℕ) × ((marks_by d x).given ≡ OutOfLine s) × ComesFirst rows s

-- 4. "Times given = times ended + 1 for the seat that holds it."; at most one does, since `floor_holder` names one or none
abbrev pub GivenAndEnded : Type 0
GivenAndEnded = (d : List ℕ) (rows : List Row) → Ran d rows → (now : Look d) (s : ℕ) →
    times (is_given_any s) rows ≡ times (is_ended s) rows + one (is_seat (holder now) s)

-- 5. Nobody enters the line, leaves it, gets the floor or loses it without its mark; and the line and the holder now can be worked out from
-- the marks and the requests alone.
pub record Marked (old new : List Entry) (from to : Option ℕ) (m : Marks) (s : ℕ) : Type 0 where
  pub enters : is_in s old ≡ false → is_in s new ≡ true → is_placed s m ≡ true
  pub goes : is_in s old ≡ true → is_in s new ≡ false → (is_struck s m || is_given_out s m) ≡ true
  pub gets : is_seat from s ≡ false → is_seat to s ≡ true → is_given_any s m ≡ true
  pub loses : is_seat from s ≡ true → is_seat to s ≡ false → is_ended s m ≡ true

abbrev pub NothingUnseen : Type 0
NothingUnseen = (d : List ℕ) (rows : List Row) → Ran d rows → (before : Look d) (x : Call) → Promised d x → ActFits x.act →
    (after : Look x.desk) (s : ℕ) → Marked (line before) (line after) (holder before) (holder after) (marks_by d x) s

abbrev pub WorkedOut : Type 0
WorkedOut = (d : List ℕ) (rows : List Row) → Ran d rows → (now : Look d) →
    (line now ≡ line_from rows) × ((s : ℕ) → is_seat (holder now) s ≡ is_seat (holder_from rows) s)

-- THE DEMAND
pub record NobodyDropsOutUnseen : Type 0 where
  pub one : NobodyDropsOut
  pub two : StruckForAReason
  pub three : GoesToTheFirst
  pub four : GivenAndEnded
  pub five : NothingUnseen × WorkedOut
