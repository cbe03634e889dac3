-- Thursday's exercise (document 01): a table of what happens and what comes of it, and the statement that the rules give it. What the paper
-- leaves open is chosen here: the desk's SSRC is 1 and the seats' are 10, 11, 12, 13; their identities are test1, test10, test2, test3;
-- the duration is 30 seconds; the normal level is 0, and no row asks for it. Assumes nothing.
use Rattle.std.specs.Prelude.{ℕ, ◌+◌, ◌≡◌, refl, Bool, true, false, List, [], ◌∷◌, replicate, Some, None, Ok}
use Rattle.words.specs.Choice.{when◌then◌else◌}
use Rattle.line.specs.declared.Entry.{Entry}
use Rattle.line.specs.Line.{waiting, line_of, before, ahead, enter, another_at_least, without, seat_set, no_seats, priority_of, entry_of}
use Rattle.hall.specs.declared.Settings.{Settings}
use Rattle.hall.specs.declared.Newcomer.{Newcomer}
use Rattle.hall.specs.Answers.{DeskAnswer}
use Rattle.hall.specs.Seats.{settings_of, newcomer_of, empty_hall, alone, effective, seat_of, free_seat, with_seat}
use Rattle.identities.specs.Identity.{octets_of, name_of, no_names, with_name, same, seat_named, length_allowed}
use Rattle.joining.specs.Join.{ssrc_taken, seated, join}
use Rattle.steps.specs.declared.AlsoRuns.TheVariants.{NoMore, T20}
use Rattle.steps.specs.declared.Phase.{Phase}
use Rattle.steps.specs.declared.Phase.TheVariants.{Idle, Taken, Revoking}
use Rattle.steps.specs.declared.Kind.TheVariants as say
use Rattle.steps.specs.declared.Sending.{Sending}
use Rattle.steps.specs.declared.Given.TheVariants.{NotGiven, AtOnce, OutOfLine}
use Rattle.steps.specs.declared.Marks.{Marks}
use Rattle.steps.specs.Words.{next, ◌⇒◌, silence, no_marks}
use Rattle.giving.specs.Floor.{given, given_at_once, given_out_of_line, enters_idle, passes_on, floor_ends, revokes}
use Rattle.request.specs.Request.{waits, priority_in, full, presses, denied, info_of, holder_asks, informed, pressed, rule6, asks_again}
use Rattle.request.specs.Request.{placed}
use Rattle.request.specs.Request.{request}
use Rattle.events.specs.declared.Event.TheVariants.{Start, Expiry, Request, Release}
use Rattle.timers.specs.declared.Timer.TheVariants as timer
use Rattle.events.specs.declared.Outcome.{Outcome}
use Rattle.firing.specs.Firing.{halted, stops, ends_in, revokes_in, idle_again, revokes_again, grants_or_ends, grants_again, fires, expires}
use Rattle.events.specs.Events.{fresh, starts, caller_of, struck_off, releases, asks_place, talks, step, leave_floor, leave}
use Rattle.ways.specs.Ways.{marks}
use Rattle.events.specs.declared.Desk.{Desk}
use Rattle.history.specs.Doing.{Doing, event, leaves, joins, made, does, after_all, steps_of}

-- The paper's settings; four seats of highest priority 255, of which the last did not negotiate queueing.
abbrev pub settings : Settings
settings = settings_of 1 200 2 2 2 30 0

abbrev pub test1 : List ℕ
test1 = 116 ∷ 101 ∷ 115 ∷ 116 ∷ 49 ∷ []

abbrev pub test10 : List ℕ
test10 = 116 ∷ 101 ∷ 115 ∷ 116 ∷ 49 ∷ 48 ∷ []

abbrev test2 : List ℕ
test2 = 116 ∷ 101 ∷ 115 ∷ 116 ∷ 50 ∷ []

abbrev test3 : List ℕ
test3 = 116 ∷ 101 ∷ 115 ∷ 116 ∷ 51 ∷ []

abbrev newcomer : ℕ → Bool → Newcomer
newcomer x q = newcomer_of x 255 (record { queueing = q; receive_only = false })

abbrev pub arrivals : List Doing
arrivals =
    joins test1 (newcomer 10 true)
    ∷ joins test10 (newcomer 11 true)
    ∷ joins test2 (newcomer 12 true)
    ∷ joins test3 (newcomer 13 false)
    ∷ []

abbrev pub start : Desk
start = after_all (made settings) arrivals

-- what happens in a row, and what can be seen of it: the phase, the sequence number and the line afterwards, and the report
pub record Seen : Type 0 where
  pub phase : Phase
  pub sequence : ℕ
  pub line : List Entry
  pub answer : DeskAnswer
  pub first : Sending
  pub second : Sending
  pub marks : Marks

abbrev pub seen : Outcome → Seen
seen l =
    record {
      phase = l.desk.core.phase;
      sequence = l.desk.core.sequence;
      line = waiting l.desk.core.line;
      answer = l.answer;
      first = l.report.first;
      second = l.report.second;
      marks = l.report.marks;
    }

pub record TableRow : Type 0 where
  pub happens : Doing
  pub comes : Seen

-- how a row is written: the event, and then phase, sequence number, line, messages and marks
infix 90 ◌at◌
abbrev ◌at◌ : ℕ → ℕ → Entry
s at p = entry_of s p

abbrev row : Doing → Phase → ℕ → List Entry → Sending → Sending → Marks → TableRow
row x p n l m₁ m₂ ms =
    record { happens = x; comes = record { phase = p; sequence = n; line = l; answer = Ok tt; first = m₁; second = m₂; marks = ms } }

abbrev start_call : Doing
start_call = event Start

abbrev asks : ℕ → ℕ → Doing
asks s p = event (Request (10 + s) (Some p))

abbrev releases_it : ℕ → Doing
releases_it s = event (Release (10 + s))

-- sets of the four seats
abbrev four : Bool → Bool → Bool → Bool → List Bool
four a b c d = a ∷ b ∷ c ∷ d ∷ replicate 12 false

abbrev all_four : List Bool
all_four = four true true true true

abbrev just_0 : List Bool
just_0 = four true false false false

abbrev just_1 : List Bool
just_1 = four false true false false

abbrev just_2 : List Bool
just_2 = four false false true false

abbrev just_3 : List Bool
just_3 = four false false false true

-- b: 0 asks 5; given; Taken, sequence 2
abbrev pub row_b : TableRow
row_b =
    row (asks 0 5) (Taken (0 at 5) NoMore) 2 [] (say.Granted 5 ⇒ just_0) (say.Taken 0 2 ⇒ four false true true true)
    (marks None no_seats None (AtOnce 0))

abbrev pub thursday_table : List TableRow
thursday_table =
    -- a: start; Idle, sequence 1
    row start_call (Idle true) 1 [] (say.Idle 1 ⇒ all_four) silence no_marks
    ∷ row_b
    -- c: 1 asks 5; place 1
    ∷ row (asks 1 5) (Taken (0 at 5) NoMore) 2 (1 at 5 ∷ []) (say.Info 1 5 ⇒ just_1) silence (marks (Some 1) no_seats None NotGiven)
    -- d: 2 asks 6; place 1
    ∷ row (asks 2 6) (Taken (0 at 5) NoMore) 2 (2 at 6 ∷ 1 at 5 ∷ []) (say.Info 1 6 ⇒ just_2) silence
    (marks (Some 2) no_seats None NotGiven)
    -- e: 1 asks 6; moved, place 2
    ∷ row (asks 1 6) (Taken (0 at 5) NoMore) 2 (2 at 6 ∷ 1 at 6 ∷ []) (say.Info 2 6 ⇒ just_1) silence no_marks
    -- f: 3 asks 199; Deny #1
    ∷ row (asks 3 199) (Taken (0 at 5) NoMore) 2 (2 at 6 ∷ 1 at 6 ∷ []) (say.Deny 1 ⇒ just_3) silence no_marks
    -- g: 3 asks 200; Deny #7
    ∷ row (asks 3 200) (Taken (0 at 5) NoMore) 2 (2 at 6 ∷ 1 at 6 ∷ []) (say.Deny 7 ⇒ just_3) silence no_marks
    -- h: 2 releases; struck off
    ∷ row (releases_it 2) (Taken (0 at 5) NoMore) 2 (1 at 6 ∷ []) silence silence (marks None just_2 None NotGiven)
    -- i: 3 asks 200; placed, Revoke #4 to 0, no Info
    ∷ row (asks 3 200) (Revoking (0 at 5) 4) 2 (3 at 200 ∷ 1 at 6 ∷ []) (say.Revoke 4 ⇒ just_0) silence
    (marks (Some 3) no_seats None NotGiven)
    -- j: T3; 0 ended, 3 given, sequence 3
    ∷ row (event (Expiry (Some timer.T3))) (Taken (3 at 200) T20) 3 (1 at 6 ∷ []) (say.Granted 200 ⇒ just_3)
    (say.Taken 3 3 ⇒ four true true true false) (marks None no_seats (Some 0) (OutOfLine 3))
    -- k: T20 twice; Granted; then 3 ended, 1 given, sequence 4
    ∷ row (event (Expiry (Some timer.T20))) (Taken (3 at 200) T20) 3 (1 at 6 ∷ []) (say.Granted 200 ⇒ just_3) silence no_marks
    ∷ row (event (Expiry (Some timer.T20))) (Taken (1 at 6) T20) 4 [] (say.Granted 6 ⇒ just_1) (say.Taken 1 4 ⇒ four true false true true)
    (marks None no_seats (Some 3) (OutOfLine 1))
    -- l: 1 leaves; 1 ended, Idle to 0, 2, 3, sequence 5
    ∷ row (leaves 1) (Idle true) 5 [] (say.Idle 5 ⇒ four true false true true) silence (marks None no_seats (Some 1) NotGiven)
    ∷ []

abbrev pub events : List TableRow → List Doing
events [] = []
events (r ∷ rs) = r.happens ∷ events rs

abbrev pub outcomes : List TableRow → List Seen
outcomes [] = []
outcomes (r ∷ rs) = r.comes ∷ outcomes rs

abbrev pub seen_all : List Outcome → List Seen
seen_all [] = []
seen_all (l ∷ ls) = seen l ∷ seen_all ls

-- the statement: the rules, from the desk that was made and the four that joined it, give the table
pub thursday : seen_all (steps_of start (events thursday_table)) ≡ outcomes thursday_table
unfolding when◌then◌else◌ waiting line_of before ahead enter another_at_least without seat_set empty_hall alone effective seat_of free_seat
    with_seat
    octets_of name_of no_names with_name same seat_named length_allowed ssrc_taken seated join next given given_at_once given_out_of_line
    enters_idle
    passes_on floor_ends revokes waits priority_in priority_of full presses denied info_of holder_asks informed pressed rule6 asks_again
    placed
    request halted stops ends_in revokes_in idle_again revokes_again grants_or_ends grants_again fires expires fresh starts caller_of
    struck_off
    releases asks_place talks step leave_floor leave does
thursday = refl

-- the four took the seats 0 to 3, each with answer 0
abbrev answers : List Outcome → List DeskAnswer
answers [] = []
answers (l ∷ ls) = l.answer ∷ answers ls

pub four-joined : (answers (steps_of (made settings) arrivals) ≡ Ok tt ∷ Ok tt ∷ Ok tt ∷ Ok tt ∷ []) × (start.hall.present ≡ all_four)
unfolding when◌then◌else◌ empty_hall seat_of free_seat with_seat octets_of name_of no_names with_name same seat_named length_allowed
    ssrc_taken seated
    join fresh does
four-joined = (refl, refl)
