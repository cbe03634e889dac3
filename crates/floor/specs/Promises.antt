-- What each exported function promises, one definition for each, in the order of include/floor.h: what it is lent, its answer, and what it
-- leaves in every buffer that it may write. The function's `ensures` cites it (src/lib.rt), and laws on what C programs see stand on these
-- definitions and on nothing else of the functions (crates floor_laws and library). Assumes nothing.
use Rattle.std.specs.Prelude.{ℕ, List, ◌≡◌, ℤ}
use Rattle.message.specs.Answers.{result}
use Rattle.signed.specs.Signed.{signed}
use Rattle.hall.specs.declared.Settings.{Settings}
use Rattle.hall.specs.Seats.{seat_of}
use Rattle.identities.specs.Identity.{seat_named}
use Rattle.events.specs.declared.Event.TheVariants.{Start, Stop, Media}
use Rattle.timers.specs.Timers.{timer_named, running}
use Rattle.desk_octets.specs.Form.{kind_octet, core_at, hall_at, names_at}
use Rattle.report_octets.specs.Report.{mask_of}
use Rattle.desk_steps.specs.Steps.{step_leaves, seat_numbered, leave_on, event_on, packet_on, fired_on}
use Rattle.desk_making.specs.Making.{make_on, newcomer, join_on, load_on}
use Rattle.desk_looking.specs.Looking.{message_on, read_on, write_on, save_on, screen_on, looks, holder_seat, holder_priority}
use Rattle.clocks_looking.specs.ClockSets.{timer_set}
use Rattle.desk_looking.specs.Looking.{seat_answer}
use Rattle.seat_looking.specs.Showing.{seat_shown, settings_shown}
use Rattle.clocks_looking.specs.ClockSets.{starts_on, stops_on}

-- THE FACE

-- its number, which every change of a function that C programs see counts up
abbrev pub face_version : ℕ
face_version = 4

abbrev pub VersionPromise : (answer : ℤ) → Type 0
VersionPromise answer = answer ≡ signed (result face_version)

-- A DESK AND ITS SEATS

abbrev pub MakePromise : (desk : List ℕ) (settings : Settings) (answer : ℤ) (desk' : List ℕ) → Type 0
MakePromise desk settings answer desk' = (answer, desk') ≡ make_on desk settings

abbrev pub JoinPromise : (desk identity : List ℕ) (ssrc highest queueing receive_only : ℕ) (answer : ℤ) (desk' : List ℕ) → Type 0
JoinPromise desk identity ssrc highest queueing receive_only answer desk' =
    (answer, desk') ≡ join_on desk identity (newcomer ssrc highest queueing receive_only)

abbrev pub LeavePromise : (desk : List ℕ) (seat : ℕ) (report : List ℕ) (answer : ℤ) (desk' report' : List ℕ) → Type 0
LeavePromise desk seat report answer desk' report' = step_leaves answer desk' report' ≡ leave_on desk report (seat_numbered seat)

-- WHAT HAPPENS IN THE CALL

abbrev pub StartPromise : (desk report : List ℕ) (answer : ℤ) (desk' report' : List ℕ) → Type 0
StartPromise desk report answer desk' report' = step_leaves answer desk' report' ≡ event_on desk report Start

abbrev pub StopPromise : (desk report : List ℕ) (answer : ℤ) (desk' report' : List ℕ) → Type 0
StopPromise desk report answer desk' report' = step_leaves answer desk' report' ≡ event_on desk report Stop

abbrev pub PacketPromise : (desk packet report : List ℕ) (answer : ℤ) (desk' report' : List ℕ) → Type 0
PacketPromise desk packet report answer desk' report' = step_leaves answer desk' report' ≡ packet_on desk report packet

abbrev pub MediaPromise : (desk : List ℕ) (ssrc : ℕ) (report : List ℕ) (answer : ℤ) (desk' report' : List ℕ) → Type 0
MediaPromise desk ssrc report answer desk' report' = step_leaves answer desk' report' ≡ event_on desk report (Media ssrc)

abbrev pub TimerPromise : (desk : List ℕ) (timer : ℕ) (report : List ℕ) (answer : ℤ) (desk' report' : List ℕ) → Type 0
TimerPromise desk timer report answer desk' report' = step_leaves answer desk' report' ≡ fired_on desk report (timer_named timer)

-- WHAT IS SENT, AND PACKETS BY THEMSELVES

abbrev pub MessagePromise : (desk report : List ℕ) (which : ℕ) (room : List ℕ) (answer : ℤ) (room' : List ℕ) → Type 0
MessagePromise desk report which room answer room' = (answer, room') ≡ message_on desk report which room

abbrev pub ReadPromise : (packet message : List ℕ) (answer : ℤ) (message' : List ℕ) → Type 0
ReadPromise packet message answer message' = (answer, message') ≡ read_on packet message

abbrev pub WritePromise : (message source room : List ℕ) (answer : ℤ) (room' : List ℕ) → Type 0
WritePromise message source room answer room' = (answer, room') ≡ write_on message source room

-- THE SHEET

abbrev pub SavePromise : (desk room : List ℕ) (answer : ℤ) (room' : List ℕ) → Type 0
SavePromise desk room answer room' = (answer, room') ≡ save_on desk room

abbrev pub LoadPromise : (desk sheet : List ℕ) (answer : ℤ) (desk' : List ℕ) → Type 0
LoadPromise desk sheet answer desk' = (answer, desk') ≡ load_on desk sheet

-- LOOKING AT A DESK

abbrev pub ScreenPromise : (desk room : List ℕ) (answer : ℤ) (room' : List ℕ) → Type 0
ScreenPromise desk room answer room' = (answer, room') ≡ screen_on desk room

abbrev pub PhasePromise : (desk : List ℕ) (answer : ℤ) → Type 0
PhasePromise desk answer = answer ≡ looks desk (result (kind_octet (core_at desk).phase))

abbrev pub HolderPromise : (desk : List ℕ) (answer : ℤ) → Type 0
HolderPromise desk answer = answer ≡ looks desk (holder_seat (core_at desk).phase)

abbrev pub HolderPriorityPromise : (desk : List ℕ) (answer : ℤ) → Type 0
HolderPriorityPromise desk answer = answer ≡ looks desk (holder_priority (core_at desk).phase)

abbrev pub RunningPromise : (desk : List ℕ) (answer : ℤ) → Type 0
RunningPromise desk answer = answer ≡ looks desk (result (timer_set (running (core_at desk).phase)))

abbrev pub SequencePromise : (desk : List ℕ) (answer : ℤ) → Type 0
SequencePromise desk answer = answer ≡ looks desk (result (core_at desk).sequence)

abbrev pub C7Promise : (desk : List ℕ) (answer : ℤ) → Type 0
C7Promise desk answer = answer ≡ looks desk (result (core_at desk).c7)

abbrev pub C20Promise : (desk : List ℕ) (answer : ℤ) → Type 0
C20Promise desk answer = answer ≡ looks desk (result (core_at desk).c20)

abbrev pub SeatsPromise : (desk : List ℕ) (answer : ℤ) → Type 0
SeatsPromise desk answer = answer ≡ looks desk (result (mask_of (hall_at desk).present))

abbrev pub SeatBySsrcPromise : (desk : List ℕ) (ssrc : ℕ) (answer : ℤ) → Type 0
SeatBySsrcPromise desk ssrc answer = answer ≡ looks desk (seat_answer (seat_of (hall_at desk) ssrc))

abbrev pub SeatByIdentityPromise : (desk identity : List ℕ) (answer : ℤ) → Type 0
SeatByIdentityPromise desk identity answer = answer ≡ looks desk (seat_answer (seat_named (hall_at desk) (names_at desk) identity))

abbrev pub SeatPromise : (desk : List ℕ) (seat : ℕ) (room : List ℕ) (answer : ℤ) (room' : List ℕ) → Type 0
SeatPromise desk seat room answer room' = (answer, room') ≡ seat_shown desk seat room

abbrev pub SettingsPromise : (desk room : List ℕ) (answer : ℤ) (room' : List ℕ) → Type 0
SettingsPromise desk room answer room' = (answer, room') ≡ settings_shown desk room

-- WHICH CLOCKS TO START AND STOP AFTER A STEP: before and after are what `floor_running` answered before and after it

abbrev pub StartsPromise : (before after fired : ℕ) (report : List ℕ) (answer : ℤ) → Type 0
StartsPromise before after fired report answer = answer ≡ starts_on before after fired report

abbrev pub StopsPromise : (before after : ℕ) (answer : ℤ) → Type 0
StopsPromise before after answer = answer ≡ stops_on before after
