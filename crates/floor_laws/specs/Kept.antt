-- The desk in lent octets, call by call (document 01, "The desk"): "All refusals leave the desk unchanged, with no message and no mark";
-- "Octets not in that form get 20, before all else; a step writes only octets in it, and every desk that steps can reach from a fresh one
-- has octets there, which stand for that desk alone". Of the exported functions nothing is used but what they promise
-- (floor/specs/Promises); any sequence of calls is in library/specs/Library. Each statement here is proved in proofs/, in the file named
-- beside it. Octets are numbers below 256, as all that is lent. Assumes nothing.
use Rattle.report_octets.specs.Places.{report_size}
use Rattle.desk_octets.specs.Places.{desk_size}
use Rattle.std.specs.Prelude.{ℕ, ◌/◌, ◌≤◌, ◌<◌, ◌≡◌, true, false, List, [], ◌∷◌, Option, Some, None, length, take, ℤ, pos}
use Rattle.octets.specs.Octets.{over, Octets}
use Rattle.words.specs.Choice.{when◌then◌else◌}
use Rattle.message.specs.Answers.{refused, result}
use Rattle.signed.specs.Signed.{signed, by_number, is_done, Succeeds, Refuses}
use Rattle.line.specs.declared.Entry.{Entry}
use Rattle.screen.specs.Screen.{list_answer}
use Rattle.hall.specs.Answers.{answer_number}
use Rattle.hall.specs.declared.Settings.{Settings}
use Rattle.hall.specs.declared.Newcomer.{Newcomer}
use Rattle.hall.specs.Seats.{free_seat}
use Rattle.events.specs.declared.Event.TheVariants.{Start, Stop, Media, Expiry}
use Rattle.events.specs.declared.Desk.{Desk}
use Rattle.events.specs.Events.{whole_desk}
use Rattle.timers.specs.Timers.{timer_named}
use Rattle.history.specs.Doing.{Doing, event, packet, leaves, joins, made, does, after_all, Fresh}
use Rattle.sheet.specs.Layout.{Seat, seats_of}
use Rattle.sheet.specs.Framing.{seat_count}
use Rattle.loading.specs.Loading.{settings_on, read_seats}
use Rattle.sheet_laws.specs.Sheets.{IsDesk}
use Rattle.desk_octets.specs.Form.{octets_of_desk, core_at, hall_at, names_at}
use Rattle.report_octets_laws.specs.Reported.{ReportFits}
use Rattle.desk_test.specs.Lent.{formed}
use Rattle.desk_making.specs.Making.{newcomer, settable, seat_taken}
use Rattle.desk_steps.specs.Steps.{seat_numbered}
use Rattle.desk_looking.specs.Looking.{screened}
use Rattle.floor.specs.Promises.{MakePromise, JoinPromise, LeavePromise, StartPromise, StopPromise, PacketPromise, MediaPromise}
use Rattle.floor.specs.Promises.{TimerPromise, MessagePromise, SavePromise, LoadPromise, ScreenPromise, PhasePromise, HolderPromise}
use Rattle.floor.specs.Promises.{RunningPromise, SequencePromise, C7Promise, C20Promise, SeatsPromise, SeatBySsrcPromise}
use Rattle.floor.specs.Promises.{HolderPriorityPromise, SeatByIdentityPromise, ReadPromise, WritePromise, SeatPromise, SettingsPromise}

-- WHAT A C PROGRAM HAS

-- the desk that octets stand for, and the octets of a desk
abbrev pub desk_at : List ℕ → Desk
desk_at s = whole_desk (core_at s) (hall_at s) (names_at s)

abbrev pub octets_for : Desk → List ℕ
octets_for d = octets_of_desk d.core d.hall d.names

-- octets in the form, which stand for this desk
pub record Holds (s : List ℕ) (d : Desk) : Type 0 where
  pub octets : Octets s
  pub in_form : formed s ≡ true
  pub stands : desk_at s ≡ d

-- what it may ask of a desk: the exported functions that may change one, and what they are lent beside the desk and the report
pub data Act : Type 0 where
  floor_join : (identity : List ℕ) (ssrc highest queueing receive_only : ℕ) → Act
  floor_leave : (seat : ℕ) → Act
  floor_start : Act
  floor_stop : Act
  floor_packet : (packet : List ℕ) → Act
  floor_media : (ssrc : ℕ) → Act
  floor_timer : (timer : ℕ) → Act

-- a call: what is asked, with which room for a report; its answer, and what it leaves in the desk's octets and in the report's
pub record Call : Type 0 where
  pub act : Act
  pub room : List ℕ
  pub answer : ℤ
  pub desk : List ℕ
  pub report : List ℕ

-- what the function promises of it; join has no report
abbrev pub PromisedBy : Act → (d r : List ℕ) (n : ℤ) (d' r' : List ℕ) → Type 0
PromisedBy (floor_join o x h q l) d r n d' r' = JoinPromise d o x h q l n d' × (r' ≡ r)
PromisedBy (floor_leave s) d r n d' r' = LeavePromise d s r n d' r'
PromisedBy floor_start d r n d' r' = StartPromise d r n d' r'
PromisedBy floor_stop d r n d' r' = StopPromise d r n d' r'
PromisedBy (floor_packet p) d r n d' r' = PacketPromise d p r n d' r'
PromisedBy (floor_media x) d r n d' r' = MediaPromise d x r n d' r'
PromisedBy (floor_timer t) d r n d' r' = TimerPromise d t r n d' r'

abbrev pub Promised : List ℕ → Call → Type 0
Promised d x = PromisedBy x.act d x.room x.answer x.desk x.report

-- what it is to the desk
abbrev pub meant : Act → Doing
meant (floor_join o x h q l) = joins o (newcomer x h q l)
meant (floor_leave s) = leaves (seat_numbered s)
meant floor_start = event Start
meant floor_stop = event Stop
meant (floor_packet p) = packet p
meant (floor_media x) = event (Media x)
meant (floor_timer t) = event (Expiry (timer_named t))

-- what the rules answer to it: a packet that is not read has its refusal's number
abbrev pub ruled : Desk → Act → ℕ
ruled k a = answer_number (does k (meant a)).answer

-- what is told of it once it is done: the seat of a join, the lowest free one; 0 of all else
abbrev pub done_by : Desk → Doing → ℕ
done_by k (event e) = 0
done_by k (packet p) = 0
done_by k (leaves s) = 0
done_by k (joins o n) = seat_taken (free_seat k.hall)

abbrev pub told_by : Desk → Act → ℤ
told_by k a = signed (by_number (ruled k a) (done_by k (meant a)))

-- numbers from C have their places in octets: what a newcomer says of itself has; nothing else that an act brings is kept
abbrev pub Fits : List ℕ → Newcomer → Type 0
Fits o n = Octets o × (n.ssrc < 4294967296) × (n.highest < 256)

abbrev pub DoingFits : Doing → Type 0
DoingFits (event e) = Unit
DoingFits (packet p) = Unit
DoingFits (leaves s) = Unit
DoingFits (joins o n) = Fits o n

abbrev pub ActFits : Act → Type 0
ActFits a = DoingFits (meant a)

abbrev pub AllFit : List Doing → Type 0
AllFit [] = Unit
AllFit (x ∷ xs) = DoingFits x × AllFit xs

-- what was done: what is refused, for whatever reason, is not
abbrev pub did : ℤ → Doing → List Doing
did answer x = when is_done answer then x ∷ [] else []

abbrev pub doings : Call → List Doing
doings x = did x.answer (meant x.act)

-- "ALL REFUSALS LEAVE THE DESK UNCHANGED, WITH NO MESSAGE AND NO MARK" (proofs/Refusals): nothing is written, in the desk or in the report

abbrev pub RefusalWritesNothing : Type 0
RefusalWritesNothing = (d : List ℕ) (x : Call) → Promised d x → Refuses x.answer → (x.desk ≡ d) × (x.report ≡ x.room)

abbrev pub NotMade : Type 0
NotMade = (room : List ℕ) (g : Settings) (n : ℤ) (room' : List ℕ) → MakePromise room g n room' → Refuses n → room' ≡ room

abbrev pub NotLoaded : Type 0
NotLoaded = (room sheet : List ℕ) (n : ℤ) (room' : List ℕ) → LoadPromise room sheet n room' → Refuses n → room' ≡ room

-- nor in the room of a function that writes into one (proofs/Rooms)
abbrev pub KeepsRoom : (Promise : List ℕ → ℤ → List ℕ → Type 0) → Type 0
KeepsRoom Promise = (room : List ℕ) (n : ℤ) (room' : List ℕ) → Promise room n room' → Refuses n → room' ≡ room

abbrev pub RoomsKept : Type 0
RoomsKept =
    ((d report : List ℕ) (which : ℕ) → KeepsRoom (MessagePromise d report which)) × ((packet : List ℕ) → KeepsRoom (ReadPromise packet))
    × ((message source : List ℕ) → KeepsRoom (WritePromise message source)) × ((d : List ℕ) → KeepsRoom (SavePromise d))
    × ((d : List ℕ) → KeepsRoom (ScreenPromise d)) × ((d : List ℕ) (seat : ℕ) → KeepsRoom (SeatPromise d seat))
    × ((d : List ℕ) → KeepsRoom (SettingsPromise d))

-- "OCTETS NOT IN THAT FORM GET 20, BEFORE ALL ELSE" (proofs/Refusals)

abbrev pub Minus20 : ℤ → Type 0
Minus20 answer = answer ≡ signed (refused 20)

abbrev pub NotADesk : Type 0
NotADesk = (d : List ℕ) (x : Call) → Promised d x → formed d ≡ false → Minus20 x.answer

-- the functions that look at a desk answer so too, and those with a room leave it as it was
abbrev pub NotLookedAt : Type 0
NotLookedAt = (d : List ℕ) (n : ℤ) → formed d ≡ false →
    (PhasePromise d n → Minus20 n) × (HolderPromise d n → Minus20 n) × (HolderPriorityPromise d n → Minus20 n)
    × (RunningPromise d n → Minus20 n) × (SequencePromise d n → Minus20 n) × (C7Promise d n → Minus20 n) × (C20Promise d n → Minus20 n)
    × (SeatsPromise d n → Minus20 n)
    × ((ssrc : ℕ) → SeatBySsrcPromise d ssrc n → Minus20 n) × ((identity : List ℕ) → SeatByIdentityPromise d identity n → Minus20 n)

abbrev pub Unread : ℤ → List ℕ → List ℕ → Type 0
Unread answer room room' = Minus20 answer × (room' ≡ room)

abbrev pub NotWrittenFrom : Type 0
NotWrittenFrom = (d room : List ℕ) (n : ℤ) (room' : List ℕ) → formed d ≡ false →
    (ScreenPromise d room n room' → Unread n room room') × (SavePromise d room n room' → Unread n room room')
    × ((report : List ℕ) (which : ℕ) → MessagePromise d report which room n room' → Unread n room room')
    × ((seat : ℕ) → SeatPromise d seat room n room' → Unread n room room') × (SettingsPromise d room n room' → Unread n room room')

-- then comes what the rules answer, and nothing else is refused but for want of 24 octets for the report of what would be done
abbrev pub RulesAnswer : Type 0
RulesAnswer =
    (d : List ℕ) (x : Call) → Promised d x → formed d ≡ true → (ruled (desk_at d) x.act ≡ 0 → report_size ≤ length x.room) →
    x.answer ≡ told_by (desk_at d) x.act

-- "A STEP WRITES ONLY OCTETS IN IT" (proofs/Steps), and they stand for the desk that the rules leave

abbrev pub StepInForm : Type 0
StepInForm =
    (d : List ℕ) (x : Call) → Promised d x → Octets d → formed d ≡ true → ActFits x.act →
    Holds x.desk (after_all (desk_at d) (doings x))

-- and what it reports is of the shape that a report's octets say (proofs/Shape)
abbrev pub StepFits : Type 0
StepFits = (d : List ℕ) → Octets d → formed d ≡ true → (x : Doing) → DoingFits x → ReportFits (does (desk_at d) x).report

-- "EVERY DESK THAT STEPS CAN REACH FROM A FRESH ONE HAS OCTETS THERE" (proofs/Desks)

-- settings that a desk can be made with
abbrev pub Settable : Settings → Type 0
Settable g = (settable g ≡ true) × (g.ssrc < 4294967296)

abbrev pub ReachedHasOctets : Type 0
ReachedHasOctets =
    (g : Settings) → Settable g → (xs : List Doing) → AllFit xs → Holds (octets_for (after_all (made g) xs)) (after_all (made g) xs)

-- "WHICH STAND FOR THAT DESK ALONE" (proofs/Desks): octets stand for one desk, since `desk_at` is a function; and one desk has one such
-- string

abbrev pub OnlyItsOctets : Type 0
OnlyItsOctets = (s : List ℕ) (d : Desk) → Holds s d → s ≡ octets_for d

-- A DESK THAT IS MADE OR LOADED (proofs/Made, proofs/Loaded): its octets are the first 1,200 of the room

abbrev pub desk_in : List ℕ → List ℕ
desk_in room = take desk_size room

-- settings in their ranges and enough room make a fresh desk
abbrev pub Makes : Type 0
Makes =
    (room : List ℕ) (g : Settings) (n : ℤ) (room' : List ℕ) → MakePromise room g n room' → settable g ≡ true → desk_size ≤ length room →
    n ≡ signed (result 0)

abbrev pub MadeInForm : Type 0
MadeInForm =
    (room : List ℕ) (g : Settings) (n : ℤ) (room' : List ℕ) → MakePromise room g n room' → Succeeds n → g.ssrc < 4294967296 →
    Settable g × Holds (desk_in room') (made g)

-- an accepted sheet leaves the fresh desk with its settings that its seats joined, one after the other
abbrev pub joins_of : List Seat → List Doing
joins_of [] = []
joins_of (x ∷ xs) = joins x.identity x.who ∷ joins_of xs

abbrev pub seated_from : Option (List Seat) → List Doing
seated_from (Some xs) = joins_of xs
seated_from None = []

abbrev pub joins_on : List ℕ → List Doing
joins_on sheet = seated_from (read_seats (seat_count sheet) sheet 0)

-- "A loaded desk is fresh"
pub record Loaded (s sheet : List ℕ) : Type 0 where
  pub settings : Settable (settings_on sheet)
  pub fit : AllFit (joins_on sheet)
  pub is_fresh : Fresh (after_all (made (settings_on sheet)) (joins_on sheet))
  pub holds : Holds s (after_all (made (settings_on sheet)) (joins_on sheet))

abbrev pub LoadedInForm : Type 0
LoadedInForm =
    (room sheet : List ℕ) (n : ℤ) (room' : List ℕ) → LoadPromise room sheet n room' → Succeeds n → Octets sheet →
    Loaded (desk_in room') sheet

-- "AN ACCEPTED SHEET IS WRITTEN BACK OCTET FOR OCTET" (proofs/Sheets): what `floor_load` took, `floor_save` writes, given room for it

abbrev pub LoadedIsSaved : Type 0
LoadedIsSaved =
    (desk sheet : List ℕ) (m : ℤ) (desk' : List ℕ) → LoadPromise desk sheet m desk' → Succeeds m → Octets sheet →
    (room : List ℕ) (n : ℤ) (room' : List ℕ) → SavePromise (desk_in desk') room n room' → length sheet ≤ length room →
    (n ≡ pos (length sheet)) × (room' ≡ over room 0 sheet)

-- "SEATS AND SETTINGS ARE SAVED FROM ANY DESK" (proofs/Sheets): what `floor_save` wrote, `floor_load` takes, in any room that is long
-- enough, and leaves a fresh desk with the same seats, numbered from 0 in their order, and the same settings

abbrev pub SavedIsLoaded : Type 0
SavedIsLoaded =
    (d room : List ℕ) (n : ℕ) (room' : List ℕ) → SavePromise d room (pos n) room' → Octets d →
    let sheet = take n room' in
    (desk : List ℕ) (m : ℤ) (desk' : List ℕ) → LoadPromise desk sheet m desk' → Octets sheet → desk_size ≤ length desk →
    (m ≡ signed (result 0)) × IsDesk (desk_at (desk_in desk')) (seats_of (hall_at d) (names_at d)) (hall_at d).settings

-- "48, ON SAVING AT ANOTHER LEVEL, BEFORE 13" (document 02, #101; proofs/Sheets): `floor_save` answers it to a desk exactly if its normal
-- level is not 0, whatever the room

abbrev pub SaveAnswers48 : Type 0
SaveAnswers48 =
    (d room : List ℕ) (n : ℤ) (room' : List ℕ) → SavePromise d room n room' → formed d ≡ true →
    (((hall_at d).settings.normal ≡ 0 → ⊥) → n ≡ signed (refused 48)) × (n ≡ signed (refused 48) → (hall_at d).settings.normal ≡ 0 → ⊥)

-- "THE WALL SCREEN IS HANDED THE LINE AS A LIST OF ENTRIES" (proofs/Wall): two octets an entry, and C is answered as the crate `screen`
-- answers

abbrev pub OneScreen : Type 0
OneScreen = (es : List Entry) (room : List ℕ) → (screened es room).0 ≡ signed (list_answer es (length room / 2))
