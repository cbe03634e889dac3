-- The events of document 01, "The desk". Assumes nothing.
use Rattle.std.specs.Prelude.{ℕ, [], eqb, Option, Some, None, Result, Ok, Err}
use Rattle.words.specs.Choice.{when◌then◌else◌}
use Rattle.line.specs.Line.{waiting, line_of, without}
use Rattle.hall.specs.declared.Hall.{Hall}
use Rattle.identities.specs.declared.Names.{Names}
use Rattle.hall.specs.declared.Refusal.{Refusal}
use Rattle.hall.specs.declared.Refusal.TheVariants.{CallStopped, NoSuchSeat, NotExpected}
use Rattle.hall.specs.Seats.{is_present, only, effective, seat_of, vacated}
use Rattle.identities.specs.Identity.{no_name, with_name}
use Rattle.steps.specs.declared.AlsoRuns.TheVariants.{T2}
use Rattle.steps.specs.declared.Phase.{Phase}
use Rattle.steps.specs.declared.Phase.TheVariants.{Stopped, Idle, Taken, Revoking}
use Rattle.steps.specs.declared.Core.{Core}
use Rattle.steps.specs.declared.Step.{Step}
use Rattle.steps.specs.Words.{◌in_phase◌, ◌with_line◌, ◌⇒◌, done, refused, ◌sends◌, ◌marks_struck◌}
use Rattle.giving.specs.Floor.{holds, enters_idle, floor_ends}
use Rattle.request.specs.Request.{waits, info_of, request}
use Rattle.events.specs.declared.Event.{Event}
use Rattle.events.specs.declared.Event.TheVariants.{Start, Stop, Expiry, Request, Release, Position, Other, Media}
use Rattle.events.specs.declared.Desk.{Desk}
use Rattle.events.specs.declared.Outcome.{Outcome}
use Rattle.timers.specs.Timers.{is_stopped}
use Rattle.firing.specs.Firing.{expires, stops}

-- the whole desk, and what a step comes to in a hall with its names
abbrev pub whole_desk : Core → Hall → Names → Desk
whole_desk c h ns = record { core = c; hall = h; names = ns }

abbrev pub outcome : Step → Hall → Names → Outcome
outcome r h ns = record { answer = r.answer; desk = whole_desk r.core h ns; report = r.report }

-- A fresh desk has a stopped call and has sent nothing; its counters have counted nothing.
unfoldable pub fresh : Core
fresh = record { phase = Stopped; line = line_of []; sequence = 0; c7 = 0; c20 = 0 }

-- Start: a stopped call becomes idle; any other is already running, 23.
unfoldable pub starts : Core → Hall → Phase → Step
starts c h Stopped = enters_idle c h
starts c h (Idle t7) = refused c NotExpected
starts c h (Taken e b) = refused c NotExpected
starts c h (Revoking e n) = refused c NotExpected

-- Who speaks, by SSRC: first 21, then 22, and only then a rule.
abbrev pub sitting : Option ℕ → Result ℕ Refusal
sitting (Some s) = Ok s
sitting None = Err NoSuchSeat

unfoldable pub caller_of : Core → Hall → ℕ → Result ℕ Refusal
caller_of c h ssrc = when is_stopped c.phase then Err CallStopped else sitting (seat_of h ssrc)

abbrev pub heard : Core → Result ℕ Refusal → (ℕ → Step) → Step
heard c (Ok s) rule = rule s
heard c (Err r) rule = refused c r

-- a waiting seat is struck off
unfoldable pub struck_off : Core → ℕ → Step
struck_off c s = done (c with_line line_of (without (only s) (waiting c.line))) marks_struck only s

-- Release: by the holder it ends the floor, by one in line it strikes it off; anybody else has nothing to release, 23.
unfoldable pub releases : Core → Hall → ℕ → Step
releases c h s =
    when holds c.phase s then floor_ends c h s
    else when waits c s then struck_off c s
    else refused c NotExpected

-- Queue Position Request: the asker is told its place, whatever the phase and whoever it is.
unfoldable pub asks_place : Core → ℕ → Step
asks_place c s = done c sends info_of c.line s ⇒ only s

-- Media: the holder talks, so T2 takes the place of whatever ran beside T1; once revoked, its talk changes nothing more; 23 for all else.
unfoldable pub talks : Core → ℕ → Phase → Step
talks c s (Taken e b) = when eqb e.seat s then done (c in_phase Taken e T2) else refused c NotExpected
talks c s (Revoking e n) = when eqb e.seat s then done c else refused c NotExpected
talks c s (Idle t7) = refused c NotExpected
talks c s Stopped = refused c NotExpected

-- what a seat that is heard does
abbrev pub request_from : Core → Hall → Result ℕ Refusal → Option ℕ → Step
request_from c h who a = heard c who (λ s. request c h s (effective h s a))

abbrev pub release_from : Core → Hall → Result ℕ Refusal → Step
release_from c h who = heard c who (λ s. releases c h s)

abbrev pub place_from : Core → Result ℕ Refusal → Step
place_from c who = heard c who (λ s. asks_place c s)

abbrev pub media_from : Core → Result ℕ Refusal → Step
media_from c who = heard c who (λ s. talks c s c.phase)

-- A packet of any other type, an Ack too, is refused by 23, but only from a seat of a running call.
abbrev pub other_from : Core → Result ℕ Refusal → Step
other_from c who = heard c who (λ s. refused c NotExpected)

-- every event but join and leave
unfoldable pub step : Core → Hall → Event → Step
step c h Start = starts c h c.phase
step c h Stop = stops c c.phase
step c h (Expiry t) = expires c h t
step c h (Request x a) = request_from c h (caller_of c h x) a
step c h (Release x) = release_from c h (caller_of c h x)
step c h (Position x) = place_from c (caller_of c h x)
step c h (Media x) = media_from c (caller_of c h x)
step c h (Other x) = other_from c (caller_of c h x)

-- Leave asks only for a seat that is taken (22), in every phase. If it held the floor or waited, that ends first; what is then sent goes to
-- those who stay, so the floor ends in the hall without the leaver.
unfoldable pub leave_floor : Core → Hall → ℕ → Step
leave_floor c h s =
    when holds c.phase s then floor_ends c (vacated h s) s
    else when waits c s then struck_off c s
    else done c

unfoldable pub leave : Desk → ℕ → Outcome
leave d s =
    when is_present d.hall s then outcome (leave_floor d.core d.hall s) (vacated d.hall s) (with_name d.names s no_name)
    else outcome (refused d.core NoSuchSeat) d.hall d.names
