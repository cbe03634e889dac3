-- A packet as an event (document 01, "The desk": "Only a packet that was read becomes an event, and only types 0, 4, 8; others, Ack
-- included, get 23, after 21 and 22"). Assumes nothing.
use Rattle.std.specs.Prelude.{ℕ, List, Option, Result, Ok, Err}
use Rattle.message.specs.Answers.{Answer, refused, result, refusal_number}
use Rattle.message.specs.declared.Refusal.{Refusal}
use Rattle.message.specs.declared.MessageType.{MessageType}
use Rattle.message.specs.declared.MessageType.TheVariants.{Request, Granted, Taken, Deny, Release, Idle, Revoke, QueuePositionRequest}
use Rattle.message.specs.declared.MessageType.TheVariants.{QueuePositionInfo, Ack}
use Rattle.message.specs.declared.Message.{Message}
use Rattle.reading.specs.Reading.{reading}
use Rattle.hall.specs.declared.Refusal.TheVariants.{NotRead}
use Rattle.hall.specs.declared.Hall.{Hall}
use Rattle.steps.specs.Words.{answered}
use Rattle.steps.specs.declared.Core.{Core}
use Rattle.steps.specs.declared.Step.{Step}
use Rattle.events.specs.Events.{step}
use Rattle.events.specs.declared.Event.{Event}
use Rattle.events.specs.declared.Event.TheVariants as event

-- the priority that a request asks for; that the field is missing is a case of its own
abbrev pub priority_asked : Message → Option ℕ
priority_asked m = m.priority

-- the event that a message is, by its type: the seat is named by the header's SSRC, and the Ack bit is passed over
abbrev pub event_by : MessageType → ℕ → Option ℕ → Event
event_by Request ssrc asked = event.Request ssrc asked
event_by Release ssrc asked = event.Release ssrc
event_by QueuePositionRequest ssrc asked = event.Position ssrc
event_by Granted ssrc asked = event.Other ssrc
event_by Taken ssrc asked = event.Other ssrc
event_by Deny ssrc asked = event.Other ssrc
event_by Idle ssrc asked = event.Other ssrc
event_by Revoke ssrc asked = event.Other ssrc
event_by QueuePositionInfo ssrc asked = event.Other ssrc
event_by Ack ssrc asked = event.Other ssrc

unfoldable pub event_of : Message → Event
event_of m = event_by m.kind m.ssrc (priority_asked m)

-- a packet that was not read has its refusal's number for an answer, and nothing changes
abbrev pub by_reading : Core → Hall → Answer Message → Step
by_reading c h (refused n) = answered c (Err (NotRead n))
by_reading c h (result m) = step c h (event_of m)

unfoldable pub hears : Core → Hall → List ℕ → Step
hears c h packet = by_reading c h (reading packet)

-- the paper's number of a refusal that the reader judged by; 0 where it read
abbrev pub refusal_in : Result MessageType Refusal → ℕ
refusal_in (Ok k) = 0
refusal_in (Err r) = refusal_number r
