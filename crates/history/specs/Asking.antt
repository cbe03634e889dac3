-- What happens, as an event, and what it is to a seat (document 01, "The desk"): who asks for the floor and at which priority, who gives it
-- or its place up, and when the call stops. Assumes nothing.
use Rattle.std.specs.Prelude.{ℕ, Bool, true, false, eqb, Option, Some, None}
use Rattle.message.specs.Answers.{Answer, refused, result}
use Rattle.message.specs.declared.Message.{Message}
use Rattle.reading.specs.Reading.{reading}
use Rattle.packet_events.specs.PacketEvents.{event_of}
use Rattle.hall.specs.declared.Hall.{Hall}
use Rattle.hall.specs.Seats.{effective, seat_of, finds}
use Rattle.events.specs.declared.Event.{Event}
use Rattle.events.specs.declared.Event.TheVariants.{Start, Stop, Expiry, Request, Release, Position, Media, Other}
use Rattle.timers.specs.declared.Timer.{Timer}
use Rattle.timers.specs.declared.Timer.TheVariants as timer
use Rattle.history.specs.Doing.{Doing, event, packet, leaves, joins}

-- "Only a packet that was read becomes an event"; a leave and a join are none of these
pub data Becoming : Type 0 where
  no_event : Becoming
  an_event : Event → Becoming

abbrev pub read_as : Answer Message → Becoming
read_as (refused n) = no_event
read_as (result m) = an_event (event_of m)

abbrev pub becomes : Doing → Becoming
becomes (event e) = an_event e
becomes (packet octets) = read_as (reading octets)
becomes (leaves s) = no_event
becomes (joins o n) = no_event

-- A request names its seat by SSRC; its priority is the lower of the one asked and the seat's highest.
pub data Asking : Type 0 where
  nobody : Asking
  asks : ℕ → ℕ → Asking

abbrev pub from_seat : Hall → Option ℕ → Option ℕ → Asking
from_seat h a (Some s) = asks s (effective h s a)
from_seat h a None = nobody

abbrev pub asked_by : Hall → Event → Asking
asked_by h (Request x a) = from_seat h a (seat_of h x)
asked_by h (Release x) = nobody
asked_by h (Position x) = nobody
asked_by h (Media x) = nobody
asked_by h (Other x) = nobody
asked_by h Start = nobody
asked_by h Stop = nobody
asked_by h (Expiry t) = nobody

abbrev pub asked_in : Hall → Becoming → Asking
asked_in h no_event = nobody
asked_in h (an_event e) = asked_by h e

abbrev pub asking : Hall → Doing → Asking
asking h x = asked_in h (becomes x)

-- its own release or its own leave
abbrev pub released_by : Hall → Event → ℕ → Bool
released_by h (Release x) s = finds (seat_of h x) s
released_by h Start s = false
released_by h Stop s = false
released_by h (Expiry t) s = false
released_by h (Request x a) s = false
released_by h (Position x) s = false
released_by h (Media x) s = false
released_by h (Other x) s = false

abbrev pub released_in : Hall → Becoming → ℕ → Bool
released_in h no_event s = false
released_in h (an_event e) s = released_by h e s

abbrev pub gives_up : Hall → Doing → ℕ → Bool
gives_up h (event e) s = released_by h e s
gives_up h (packet octets) s = released_in h (read_as (reading octets)) s
gives_up h (leaves t) s = eqb t s
gives_up h (joins o n) s = false

-- the call stops: Stop, and T4, which is as Stop
abbrev pub is_t4 : Option Timer → Bool
is_t4 (Some timer.T4) = true
is_t4 (Some timer.T1) = false
is_t4 (Some timer.T2) = false
is_t4 (Some timer.T3) = false
is_t4 (Some timer.T7) = false
is_t4 (Some timer.T8) = false
is_t4 (Some timer.T20) = false
is_t4 None = false

abbrev pub stops_by : Event → Bool
stops_by Stop = true
stops_by (Expiry t) = is_t4 t
stops_by Start = false
stops_by (Request x a) = false
stops_by (Release x) = false
stops_by (Position x) = false
stops_by (Media x) = false
stops_by (Other x) = false

abbrev pub stops_in : Becoming → Bool
stops_in no_event = false
stops_in (an_event e) = stops_by e

abbrev pub stops_call : Doing → Bool
stops_call x = stops_in (becomes x)
