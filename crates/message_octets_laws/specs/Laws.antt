-- What the 40 octets keep of a message (docs/FORMS.md): nothing is lost, what a packet was read into is written again, and 0 means that it
-- was read. Each statement here is proved in proofs/, in the file named beside it. Assumes nothing.
use Rattle.std.specs.Prelude.{ℕ, ◌≤◌, ◌<◌, List, ◌≡◌, length, take, Option, Some}
use Rattle.octets.specs.Octets.{over}
use Rattle.message.specs.Answers.{result}
use Rattle.message.specs.Message.{said, count_of}
use Rattle.message.specs.declared.Part.{Part}
use Rattle.message.specs.declared.Message.{Message}
use Rattle.reading.specs.Reading.{reading}
use Rattle.writing.specs.Wire.{wire}
use Rattle.message_octets.specs.Held.{phrase_in, part_start, held_octets, held_at, read_held, kept_in, writing_of, written_of}
use Rattle.message_octets.specs.Places.{message_size}

-- A message whose places are below 65,536 is held in octets that hold it, and no other (proofs/Back).
pub record NearPart (p : Option Part) : Type 0 where
  pub start : part_start p < 65536
  pub count : count_of p < 65536

pub record Near (m : Message) : Type 0 where
  pub phrase : NearPart (phrase_in m.cause)
  pub granted : NearPart m.granted
  pub user : NearPart m.user

abbrev pub HeldBack : Type 0
HeldBack = (m : Message) → Near m → held_at (held_octets m) ≡ Some m

-- The 40 octets that a packet was read into hold the message that was read; with the packet as source and room for as many octets as it
-- has, the writer puts that message there in its one form: IDs ascending, spare octets and padding zero, and no skipped field
-- (proofs/Again).
pub record WrittenFrom (packet kept room : List ℕ) (m : Message) : Type 0 where
  pub done : read_held packet (length kept) ≡ 0
  pub holds : held_at (take message_size (kept_in packet kept)) ≡ Some m
  pub count : writing_of (held_at (take message_size (kept_in packet kept))) packet (length room) ≡ result (length (wire (said m packet)))
  pub again : written_of (held_at (take message_size (kept_in packet kept))) packet room ≡ over room 0 (wire (said m packet))

abbrev pub ReadThenWritten : Type 0
ReadThenWritten =
    (packet kept room : List ℕ) (m : Message) → reading packet ≡ result m → message_size ≤ length kept → length packet ≤ length room
    → WrittenFrom packet kept room m

-- 0 is answered only where a packet was read and the room has 40 octets: no refusal has that number (proofs/Done).
pub record WasRead (packet : List ℕ) (room : ℕ) : Type 0 where
  pub message : Message
  pub read : reading packet ≡ result message
  pub long : message_size ≤ room

abbrev pub ReadIf0 : Type 0
ReadIf0 = (packet : List ℕ) (room : ℕ) → read_held packet room ≡ 0 → WasRead packet room
