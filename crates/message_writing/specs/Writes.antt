-- What the functions that write a message out of octets say of themselves; docs/FORMS.md needs none of it. Assumes nothing.
use Rattle.std.specs.Prelude.{ℕ, ◌+◌, Bool, false, List, Option, None, Some}
use Rattle.std.specs.Bool.{then_some}
use Rattle.octets.specs.Octets.{be16, nth_octet}
use Rattle.message.specs.Types.{typed}
use Rattle.message.specs.Message.{required, has_all}
use Rattle.message.specs.declared.MessageType.{MessageType}
use Rattle.message.specs.declared.RejectCause.{RejectCause}
use Rattle.message.specs.declared.Message.{Message}
use Rattle.readable.specs.Readable.{readable}
use Rattle.field_writing.specs.Puts.{octet_size, word_size, queue_size, number_size, part_size, cause_size}
use Rattle.message_octets.specs.Held.{bit_of, is_set, place_at, message_with}
use Rattle.message_octets.specs.Places.{type_place, message_cause_place, phrase_place}

-- the type that an octet names, and any where it names none
abbrev pub type_of : Option MessageType → MessageType
type_of None = MessageType.Request
type_of (Some k) = k

-- the message that octets hold, if they hold one, by the bits of the fields that it has
unfoldable pub message_in : List ℕ → ℕ → Message
message_in s fields = message_with (type_of (typed (nth_octet s type_place))) s fields

-- what the octets have of a cause, by the worth of its bit
abbrev pub cause_held : List ℕ → ℕ → Option RejectCause
cause_held s fields = then_some (bit_of fields 4) (record { cause = be16 s message_cause_place; phrase = place_at s phrase_place })

-- the bits of all fields are set that a listed type requires
abbrev pub has_required : Option MessageType → ℕ → Bool
has_required None fields = false
has_required (Some k) fields = has_all (is_set fields) (required k)

-- a message is held, and a reader would accept it
abbrev pub readable_in : Option Message → List ℕ → Bool
readable_in None src = false
readable_in (Some m) src = readable m src

-- how many octets the fields of one length take, and those with a text
abbrev pub short_size : Message → ℕ
short_size m =
    octet_size m.priority + word_size m.duration + queue_size m.queue + word_size m.permission + word_size m.sequence
    + word_size m.source + octet_size m.message_type + word_size m.indicator + number_size m.ssrc_field

abbrev pub text_size : Message → ℕ
text_size m = cause_size m.cause + part_size m.granted + part_size m.user
