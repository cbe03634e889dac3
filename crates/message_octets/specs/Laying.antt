-- How a packet's message gets into its 40 octets in the code: the octets are zeros first, and then each field that the packet has is laid
-- over them at its place, from front to back. What the octets are stands in Held. Assumes nothing.
use Rattle.std.specs.Prelude.{ℕ, ◌+◌, ◌-◌, ◌≤◌, List, ◌∷◌, ◌++◌, ◌≡◌, length, get_or, replicate, is_some}
use Rattle.octets.specs.Octets.{be32, octets16, octets32, part, over}
use Rattle.message.specs.Types.{type_number}
use Rattle.message.specs.declared.MessageType.{MessageType}
use Rattle.message.specs.declared.Message.{Message}
use Rattle.header.specs.Header.{ssrc_place, ack_bit}
use Rattle.message_octets.specs.Held.{worth_if}
use Rattle.reading.specs.Reading.{message_at}
use Rattle.message_octets.specs.Places.{message_size}

-- a room for a message that has zeros from a place on
pub record Blank (room : List ℕ) (at : ℕ) : Type 0 where
  pub long : message_size ≤ length room
  pub zeros : part room at (message_size - at) ≡ replicate (message_size - at) 0

-- octets laid into zeros: they stand there, and behind them are zeros still
pub record Lays (room : List ℕ) (at : ℕ) (octets after : List ℕ) : Type 0 where
  pub is : after ≡ over room at octets
  pub blank : Blank after (at + length octets)

-- the message of a packet that was judged, by its type and the array of its fields' starts
abbrev pub message_by : MessageType → List ℕ → List ℕ → Message
message_by k s starts = message_at k s (λ i. get_or starts i 0)

-- what the bits of the fields are worth whose places stand in a row, with those before them
unfoldable pub first_worth : Message → ℕ
first_worth m =
    0 + worth_if (is_some m.priority) 1 + worth_if (is_some m.message_type) 4096
    + worth_if (is_some m.duration) 2
    + worth_if (is_some m.cause) 4
    + worth_if (is_some m.queue) 8

unfoldable pub next_worth : ℕ → Message → ℕ
next_worth has m =
    has + worth_if (is_some m.permission) 32 + worth_if (is_some m.sequence) 256
    + worth_if (is_some m.source) 1024
    + worth_if (is_some m.indicator) 8192
    + worth_if (is_some m.ssrc_field) 16384

unfoldable pub parts_worth : ℕ → Message → ℕ
parts_worth has m = has + worth_if (is_some m.granted) 16 + worth_if (is_some m.user) 64

-- type, Ack bit and SSRC out of the packet's header, and the fields' bits
unfoldable pub head_by : MessageType → List ℕ → ℕ → List ℕ
head_by k s fields = type_number k ∷ ack_bit s ∷ octets16 fields ++ octets32 (be32 s ssrc_place)
