-- Servers of students, and where the demands stop them (document 01, "Faults seen in student servers"; 3 below is "one whose marks are
-- invented" of document 01, "How strictly it is stated"): each is the rules' server with one fault, and a short history at which a
-- statement of Demands is not so. Every statement is refuted of one: NobodyDropsOut in 1, 2 and 3, StruckForAReason in 3, GoesToTheFirst in
-- 4, NothingUnseen in 5, GivenAndEnded in 6, the line and the holder of WorkedOut in 5 and 6. The fault in reading packets is stopped in
-- crate reading. Assumes nothing.
use Rattle.std.specs.Prelude.{ℕ, ◌+◌, ◌≡◌, refl, Bool, true, false, ◌&&◌, ◌||◌, List, [], ◌∷◌, length, take, Some, None}
use Rattle.std.proofs.Common.{ap, sym, ◌∙◌, arith}
use Rattle.words.proofs.Tests.{clash}
use Rattle.words.specs.Choice.{when◌then◌else◌}
use Rattle.line.specs.declared.Entry.{Entry}
use Rattle.line.specs.Line.{waiting, line_of, before, is_in, ahead, enter, another_at_least, without, priority_of, entry_of}
use Rattle.hall.specs.declared.Settings.{Settings}
use Rattle.hall.specs.Seats.{settings_of, newcomer_of, in_range, only, empty_hall, alone, effective, seat_of, free_seat, with_seat}
use Rattle.identities.specs.Identity.{octets_of, name_of, no_names, with_name, name_at, same, seat_named, length_allowed}
use Rattle.joining.specs.Join.{ssrc_taken, seated, join}
use Rattle.steps.specs.declared.Given.{Given}
use Rattle.steps.specs.declared.Given.TheVariants.{NotGiven, AtOnce, OutOfLine}
use Rattle.steps.specs.declared.Marks.{Marks}
use Rattle.steps.specs.Words.{◌with_line◌, next}
use Rattle.giving.specs.Floor.{holds, given, given_at_once, given_out_of_line, enters_idle, passes_on, floor_ends, revokes}
use Rattle.request.specs.Request.{waits, priority_in, full, presses, denied, info_of, holder_asks, informed, pressed, rule6, asks_again}
use Rattle.request.specs.Request.{placed}
use Rattle.request.specs.Request.{request}
use Rattle.events.specs.declared.Event.TheVariants.{Start, Request, Release}
use Rattle.events.specs.declared.Outcome.{Outcome}
use Rattle.timers.specs.Timers.{is_stopped}
use Rattle.events.specs.Events.{whole_desk, fresh, starts, caller_of, struck_off, releases, step}
use Rattle.events.specs.declared.Desk.{Desk}
use Rattle.history.specs.Doing.{Doing, event, joins, made, does, Fresh, just_made}
use Rattle.history.specs.Asking.{Asking, nobody, asks, asking}
use Rattle.exercise.specs.Thursday.{test1, test10}
use Rattle.marks.specs.Marks.{is_seat}
use Rattle.demands.specs.Demands.{Server, History, desk_after, log, times, is_placed, is_struck, is_given_out, is_given_any, is_ended}
use Rattle.demands.specs.Demands.{moves}
use Rattle.demands.specs.Demands.{changed, line_from, holder_from, in_line, place_after, place_of, latest, reason, NobodyDropsOut}
use Rattle.demands.specs.Demands.{StruckForAReason, GoesToTheFirst, GivenAndEnded, NothingUnseen, WorkedOut}

-- THE EVENING ON WHICH THEY ARE TRIED
-- Three sit down: test1, test10 and anna, with SSRCs 10, 11 and 12; the line has room for all.
abbrev settings : Settings
settings = settings_of 1 200 15 2 2 30 0

abbrev anna : List ℕ
anna = 97 ∷ 110 ∷ 110 ∷ 97 ∷ []

abbrev comes : List ℕ → ℕ → Doing
comes o x = joins o (newcomer_of x 255 (record { queueing = true; receive_only = false }))

abbrev begins : Doing
begins = event Start

abbrev asks_for : ℕ → ℕ → Doing
asks_for s p = event (Request (10 + s) (Some p))

abbrev lets_go : ℕ → Doing
lets_go s = event (Release (10 + s))

-- histories, the latest first: anna has the floor; test1 is in line behind her; and test10 behind test1
abbrev opened : History
opened = begins ∷ comes anna 12 ∷ comes test10 11 ∷ comes test1 10 ∷ []

abbrev one-waits : History
one-waits = asks_for 0 5 ∷ asks_for 2 5 ∷ opened

abbrev two_wait : History
two_wait = asks_for 1 5 ∷ one-waits

abbrev at_first : Desk
at_first = made settings

began : Fresh at_first
unfolding in_range
began = just_made settings refl

-- all that the desk's steps and the log stand on, opened, so that an evening computes
to_compute : Type 0
unfolding
    changed moves when◌then◌else◌ waiting line_of before ahead enter another_at_least without empty_hall alone effective seat_of
    free_seat with_seat octets_of name_of no_names with_name same seat_named length_allowed ssrc_taken seated join next given
    given_at_once enters_idle revokes waits priority_in priority_of full presses denied info_of holder_asks informed pressed rule6
    asks_again placed request fresh starts caller_of step does given_out_of_line passes_on floor_ends struck_off releases place_after
to_compute = ℕ

-- an outcome with another line, or with other marks
abbrev relined : Outcome → List Entry → Outcome
relined r es =
    record { answer = r.answer; desk = whole_desk (r.desk.core with_line line_of es) r.desk.hall r.desk.names; report = r.report }

abbrev remarked : Outcome → Marks → Outcome
remarked r m =
    record { answer = r.answer; desk = r.desk; report = record { first = r.report.first; second = r.report.second; marks = m } }

-- 1. THE STUDENT'S SERVER: the line is searched by the first four letters of a name, and a request is written over the entry that is found.
abbrev letters : Desk → ℕ → List ℕ
letters d s = take 4 (octets_of (name_at d.names s))

abbrev shares_letters : Desk → ℕ → List Entry → Bool
shares_letters d s [] = false
shares_letters d s (e ∷ es) = when same (letters d e.seat) (letters d s) then true else shares_letters d s es

abbrev written_over : Desk → ℕ → ℕ → List Entry → List Entry
written_over d s p [] = []
written_over d s p (e ∷ es) = when same (letters d e.seat) (letters d s) then entry_of s p ∷ es else e ∷ written_over d s p es

abbrev by_letters : Desk → Asking → Outcome → Outcome
by_letters d nobody r = r
by_letters d (asks s p) r =
    when is_placed s r.report.marks
    && shares_letters d s (waiting d.core.line) then relined r (written_over d s p (waiting d.core.line)) else r

unfoldable pub student : Server
student d x = by_letters d (asking d.hall x) (does d x)

-- the marks of the step in which test10 asks
abbrev student-marks : Marks
student-marks = (student (desk_after student at_first one-waits) (asks_for 1 5)).report.marks

-- Once test10 has asked, test1 was placed, was never given the floor or struck off, and does not wait; it waited before, and this step has
-- no mark that it went; and one stands in the line where the marks and the requests make two. Each refutation of the student's server
-- computes of this what it needs, and cites nothing: so where this evening is another, it shows here.
student_evening :
    (times (is_placed 0) (log student at_first two_wait) ≡ 1) × (times (is_given_out 0) (log student at_first two_wait) ≡ 0)
    × (times (is_struck 0) (log student at_first two_wait) ≡ 0) × (waits (desk_after student at_first two_wait).core 0 ≡ false)
    × (waits (desk_after student at_first one-waits).core 0 ≡ true) × ((is_struck 0 student-marks || is_given_out 0 student-marks) ≡ false)
    × (length (waiting (desk_after student at_first two_wait).core.line) ≡ 1) × (length (line_from (log student at_first two_wait)) ≡ 2)
unfolding student to_compute
student_evening = (refl, refl, refl, refl, refl, refl, refl, refl)

pub student_drops_one : NobodyDropsOut student → ⊥
unfolding student to_compute
student_drops_one k =
    let z : 1 ≡ 0 + 0 + 0 = (k at_first began two_wait 0).0 in
    omega arith

-- 2. A SEAT GIVEN THE FLOOR STAYS IN LINE
abbrev still_there : Desk → Given → Outcome → Outcome
still_there d NotGiven r = r
still_there d (AtOnce s) r = r
still_there d (OutOfLine s) r = relined r (waiting d.core.line)

unfoldable pub stays : Server
stays d x = still_there d (does d x).report.marks.given (does d x)

abbrev handed_over : History
handed_over = lets_go 2 ∷ one-waits

stays_counts : (times (is_placed 0) (log stays at_first handed_over) ≡ 1) × (times (is_given_out 0) (log stays at_first handed_over) ≡ 1)
    × (times (is_struck 0) (log stays at_first handed_over) ≡ 0) × (waits (desk_after stays at_first handed_over).core 0 ≡ true)
unfolding stays to_compute
stays_counts = (refl, refl, refl, refl)

pub stays_in_line : NobodyDropsOut stays → ⊥
stays_in_line k =
    let c = stays_counts in
    let z = rw (c.0, c.1, c.2, c.3) at (k at_first began handed_over 0).0 in
    omega arith

-- 3. A MARK INVENTED: whatever happens, test10 is reported as struck off
unfoldable pub invents : Server
invents d x =
    remarked (does d x)
    (record {
      placed = (does d x).report.marks.placed;
      struck = only 1;
      ended = (does d x).report.marks.ended;
      given = (does d x).report.marks.given;
    })

invented : (is_struck 1 (invents (desk_after invents at_first []) begins).report.marks ≡ true)
    × (reason (desk_after invents at_first []).hall begins 1 ≡ false)
unfolding invents does
invented = (refl, refl)

pub invents-a-mark : StruckForAReason invents → ⊥
invents-a-mark k = clash (k at_first began [] begins 1 invented.0) invented.1

invented_counts : (times (is_placed 1) (log invents at_first (begins ∷ [])) ≡ 0)
    × (times (is_struck 1) (log invents at_first (begins ∷ [])) ≡ 1)
unfolding invents to_compute
invented_counts = (refl, refl)

pub invents_and_miscounts : NobodyDropsOut invents → ⊥
invents_and_miscounts k =
    let c = invented_counts in
    let z = rw (c.0, c.1) at (k at_first began (begins ∷ []) 1).0 in
    omega arith

-- 4. ASKING AGAIN AT THE SAME PRIORITY SENDS A STUDENT TO THE BACK
abbrev behind_all : Desk → Asking → Outcome → Outcome
behind_all d nobody r = r
behind_all d (asks s p) r =
    when is_in s (waiting d.core.line) then relined r (enter (entry_of s p) (without (only s) (waiting d.core.line))) else r

unfoldable pub sends_back : Server
sends_back d x = behind_all d (asking d.hall x) (does d x)

-- test1 asks again, and anna's floor goes to test10, whose placing came later
abbrev asks_twice : History
asks_twice = asks_for 0 5 ∷ two_wait

sent_back :
    (is_ended 2 (sends_back (desk_after sends_back at_first asks_twice) (lets_go 2)).report.marks ≡ true)
    × (is_stopped (sends_back (desk_after sends_back at_first asks_twice) (lets_go 2)).desk.core.phase ≡ false)
    × ((sends_back (desk_after sends_back at_first asks_twice) (lets_go 2)).report.marks.given ≡ OutOfLine 1)
    × (place_of 0 (log sends_back at_first asks_twice) ≡ in_line 5)
    × (place_of 1 (log sends_back at_first asks_twice) ≡ in_line 5)
    × (latest 0 (log sends_back at_first asks_twice) ≡ 6) × (latest 1 (log sends_back at_first asks_twice) ≡ 7)
unfolding sends_back to_compute
sent_back = (refl, refl, refl, refl, refl, refl, refl)

same_seat : {s t : ℕ} → OutOfLine s ≡ OutOfLine t → s ≡ t
same_seat q = cc

pub sends_to_the_back : GoesToTheFirst sends_back → ⊥
sends_to_the_back k =
    let c = sent_back in
    let x = k at_first began asks_twice (lets_go 2) 2 0 5 c.0 c.3 c.1 in
    let s : x.0 ≡ 1 = same_seat (sym x.1 ∙ c.2) in
    let f = rw s at x.2 in
    let z = f.earliest 0 (c.3 ∙ sym c.4 ∙ f.waits) (λ q. omega arith) in
    omega (arith, c.5, c.6)

-- 5. test1 goes out of the student's line without a mark, and the line can no longer be worked out from the marks
pub student_unseen : NothingUnseen student → ⊥
unfolding student to_compute
student_unseen k =
    let before_it : waits (desk_after student at_first one-waits).core 0 ≡ true = refl in
    let behind_it : waits (desk_after student at_first two_wait).core 0 ≡ false = refl in
    let unmarked : (is_struck 0 student-marks || is_given_out 0 student-marks) ≡ false = refl in
    clash ((k at_first began one-waits (asks_for 1 5) 0).goes before_it behind_it) unmarked

pub student_line_not_worked_out : WorkedOut student → ⊥
unfolding student to_compute
student_line_not_worked_out k =
    let stands : length (waiting (desk_after student at_first two_wait).core.line) ≡ 1 = refl in
    let counted : length (line_from (log student at_first two_wait)) ≡ 2 = refl in
    omega (arith, ap length (k at_first began two_wait).0, stands, counted)

-- 6. THE END OF A FLOOR IS NOT REPORTED: nobody has the ended mark
unfoldable pub forgets : Server
forgets d x =
    remarked (does d x)
    (record {
      placed = (does d x).report.marks.placed;
      struck = (does d x).report.marks.struck;
      ended = None;
      given = (does d x).report.marks.given;
    })

-- anna had the floor and has let it go
abbrev let_go : History
let_go = lets_go 2 ∷ asks_for 2 5 ∷ opened

forgotten : (times (is_given_any 2) (log forgets at_first let_go) ≡ 1) × (times (is_ended 2) (log forgets at_first let_go) ≡ 0)
    × (holds (desk_after forgets at_first let_go).core.phase 2 ≡ false) × (is_seat (holder_from (log forgets at_first let_go)) 2 ≡ true)
unfolding forgets to_compute
forgotten = (refl, refl, refl, refl)

pub forgets_an_end : GivenAndEnded forgets → ⊥
forgets_an_end k =
    let c = forgotten in
    let z = rw (c.0, c.1, c.2) at (k at_first began let_go 2).0 in
    omega arith

pub holder_not_worked_out : WorkedOut forgets → ⊥
holder_not_worked_out k = let c = forgotten in clash c.3 (sym ((k at_first began let_go).1 2) ∙ c.2)
