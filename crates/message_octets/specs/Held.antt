-- A message as 40 octets (docs/FORMS.md, "A message: 40 octets"; document 01, "The packet"): what a message is held as, in that page's
-- order; the message that octets hold, or that they hold none; what is answered when a packet is read into such octets, and when a message
-- is written out of them (document 01, "What is answered to packets", 1 to 13). Assumes nothing.
use Rattle.std.specs.Prelude.{ℕ, zero, suc, ◌+◌, ◌*◌, ◌/◌, ◌%◌, ◌^◌, Bool, true, false, not, ◌||◌, List, [], ◌∷◌, ◌++◌, ltb, eqb, length}
use Rattle.std.specs.Prelude.{Option, None, Some, unwrap_or, option_map, Result, Ok, Err}
use Rattle.std.specs.Bool.{then_some}
use Rattle.message.specs.Message.{fields_of, has}
use Rattle.words.specs.Choice.{when◌then◌else◌, one}
use Rattle.octets.specs.Octets.{be16, be32, octets16, octets32, over, nth_octet}
use Rattle.message.specs.Types.{typed, type_number}
use Rattle.message.specs.Answers.{Answer, refused, result, refusal_number}
use Rattle.message.specs.declared.MessageType.{MessageType}
use Rattle.message.specs.declared.Refusal.{Refusal}
use Rattle.message.specs.declared.QueueInfo.{QueueInfo}
use Rattle.message.specs.declared.Part.{Part}
use Rattle.message.specs.declared.RejectCause.{RejectCause}
use Rattle.message.specs.declared.Message.{Message}
use Rattle.reading.specs.Reading.{reading}
use Rattle.writing.specs.Writing.{writing, written, Tells}
use Rattle.message_octets.specs.Places.{type_place, ack_place, fields_place, message_ssrc_place, priority_place, message_type_place}
use Rattle.message_octets.specs.Places.{duration_place}
use Rattle.message_octets.specs.Places.{message_cause_place, queue_place, permission_place, message_sequence_place, source_place}
use Rattle.message_octets.specs.Places.{indicator_place}
use Rattle.message_octets.specs.Places.{ssrc_field_place, phrase_place, granted_place, user_place, message_size}

-- WHAT A MESSAGE IS HELD AS

-- the number of n bits, the lowest of which is f i, the next f (i + 1), and so on
abbrev pub bits : (ℕ → Bool) → ℕ → ℕ → ℕ
bits f i zero = 0
bits f i (suc n) = one (f i) + 2 * bits f (suc i) n

-- "bit i for ID i, the lowest bit for ID 0"; whether a message has a field is the same for every source
unfoldable pub which : Message → ℕ
which m = bits (has (fields_of m [])) 0 16

-- what the bit of a field adds, if the message has the field
abbrev pub worth_if : Bool → ℕ → ℕ
worth_if true worth = worth
worth_if false worth = 0

-- what a field holds, and "zeros where a field is absent"
abbrev pub number_in : Option ℕ → ℕ
number_in o = unwrap_or o 0

abbrev pub no_place : QueueInfo
no_place = record { place = 0; priority = 0 }

abbrev pub queue_in : Option QueueInfo → QueueInfo
queue_in o = unwrap_or o no_place

abbrev pub reject_cause_in : Option RejectCause → ℕ
reject_cause_in o = number_in (option_map (λ c. c.cause) o)

abbrev pub phrase_in : Option RejectCause → Option Part
phrase_in o = option_map (λ c. c.phrase) o

abbrev pub no_part : Part
no_part = record { from = 0; count = 0 }

abbrev pub part_start : Option Part → ℕ
part_start o = (unwrap_or o no_part).from

-- 0 to 7: type, Ack bit, which fields it has, SSRC
unfoldable pub head_octets : Message → List ℕ
head_octets m = type_number m.kind ∷ one m.ack ∷ octets16 (which m) ++ octets32 m.ssrc

-- 8 to 15: Floor Priority, Message Type, Duration, the cause, Queue Info
unfoldable pub first_octets : Message → List ℕ
first_octets m =
    number_in m.priority ∷ number_in m.message_type ∷ octets16 (number_in m.duration)
    ++ octets16 (reject_cause_in m.cause) ++ ((queue_in m.queue).place ∷ (queue_in m.queue).priority ∷ [])

-- 16 to 27: Permission to Request, Message Sequence-Number, Source, Floor Indicator, SSRC
unfoldable pub next_octets : Message → List ℕ
next_octets m =
    octets16 (number_in m.permission) ++ octets16 (number_in m.sequence) ++ octets16 (number_in m.source)
    ++ octets16 (number_in m.indicator) ++ octets32 (number_in m.ssrc_field)

-- where a part starts in the source and how many octets it has, each in 16 bits
unfoldable pub part_in_four : Part → List ℕ
part_in_four p = octets16 (p.from % 65536) ++ octets16 (p.count % 65536)

abbrev pub place_octets : Option Part → List ℕ
place_octets o = part_in_four (unwrap_or o no_part)

-- 28 to 39: the phrase, Granted Party's Identity, User ID
unfoldable pub part_octets : Message → List ℕ
part_octets m = place_octets (phrase_in m.cause) ++ place_octets m.granted ++ place_octets m.user

unfoldable pub held_octets : Message → List ℕ
held_octets m = head_octets m ++ first_octets m ++ next_octets m ++ part_octets m

-- THE MESSAGE THAT OCTETS HOLD, IF THEY HOLD ONE

-- whether the bit of this worth is set, and bit i
abbrev pub bit_of : ℕ → ℕ → Bool
bit_of n worth = eqb (n / worth % 2) 1

abbrev pub is_set : ℕ → ℕ → Bool
is_set n i = bit_of n (2 ^ i)

-- a part of the source, by where its octets stand
abbrev pub place_at : List ℕ → ℕ → Part
place_at s at = record { from = be16 s at; count = be16 s (at + 2) }

-- the message of this type, by the bits of the fields that it has: "A writer looks at a field only where its bit is set"
unfoldable pub message_with : MessageType → List ℕ → ℕ → Message
message_with k s fields =
    record {
      kind = k;
      ack = eqb (nth_octet s ack_place) 1;
      ssrc = be32 s message_ssrc_place;
      priority = then_some (is_set fields 0) (nth_octet s priority_place);
      duration = then_some (is_set fields 1) (be16 s duration_place);
      cause = then_some (is_set fields 2) (record { cause = be16 s message_cause_place; phrase = place_at s phrase_place });
      queue = then_some (is_set fields 3) (record { place = nth_octet s queue_place; priority = nth_octet s (queue_place + 1) });
      granted = then_some (is_set fields 4) (place_at s granted_place);
      permission = then_some (is_set fields 5) (be16 s permission_place);
      user = then_some (is_set fields 6) (place_at s user_place);
      sequence = then_some (is_set fields 8) (be16 s message_sequence_place);
      source = then_some (is_set fields 10) (be16 s source_place);
      message_type = then_some (is_set fields 12) (nth_octet s message_type_place);
      indicator = then_some (is_set fields 13) (be16 s indicator_place);
      ssrc_field = then_some (is_set fields 14) (be32 s ssrc_field_place);
    }

-- "a bit for an ID that is not in the table": 7, 9, 11 and 15 are not
unfoldable pub unlisted_field : ℕ → Bool
unlisted_field fields = is_set fields 7 || is_set fields 9 || is_set fields 11 || is_set fields 15

abbrev pub held_of_type : Option MessageType → List ℕ → Option Message
held_of_type None s = None
held_of_type (Some k) s = Some (message_with k s (be16 s fields_place))

-- octets that are not 40, an Ack bit above 1, an unlisted field and an unlisted type hold no message
unfoldable pub held_at : List ℕ → Option Message
held_at s =
    when not (eqb (length s) message_size) then None
    else when ltb 1 (nth_octet s ack_place) then None
    else when unlisted_field (be16 s fields_place) then None
    else held_of_type (typed (nth_octet s type_place)) s

-- WHAT IS ANSWERED

-- a packet read into a room: the refusal's number, 1 to 11 or 14; then 13 if the room is shorter than 40 octets; else 0
abbrev pub read_number : Answer Message → ℕ → ℕ
read_number (refused n) room = n
read_number (result m) room = when ltb room message_size then 13 else 0

-- "A refusal returns its number only and writes nothing; a result leaves the room past its end untouched" (document 01, "What is answered
-- to packets")
abbrev pub keeping : Answer Message → List ℕ → List ℕ
keeping (refused n) room = room
keeping (result m) room = when ltb (length room) message_size then room else over room 0 (held_octets m)

unfoldable pub read_held : List ℕ → ℕ → ℕ
read_held packet room = read_number (reading packet) room

unfoldable pub kept_in : List ℕ → List ℕ → List ℕ
kept_in packet room = keeping (reading packet) room

-- the code's answer in the paper's numbers
abbrev pub read_answer : Result (Unit {0}) Refusal → ℕ
read_answer (Ok done) = 0
read_answer (Err r) = refusal_number r

-- a message written out of octets: 12 where they hold none, else as the writer answers
abbrev pub writing_of : Option Message → List ℕ → ℕ → Answer ℕ
writing_of None src room = refused 12
writing_of (Some m) src room = writing m src room

abbrev pub written_of : Option Message → List ℕ → List ℕ → List ℕ
written_of None src room = room
written_of (Some m) src room = written m src room

abbrev pub WritesOf : Option Message → List ℕ → List ℕ → Result ℕ Refusal → List ℕ → Type 0
WritesOf held src room answer after = Tells (writing_of held src (length room)) (written_of held src room) answer after
