-- What the reader answers (document 01, "What is answered to packets", 1 to 11, in that order, with 14 of document 02, #107, among the
-- checks of a field), and the message that a packet is (document 01, "The packet"). Assumes nothing.
use Rattle.std.specs.Prelude.{ℕ, ◌+◌, ◌-◌, List, ◌≡◌, eqb, get_or, Option, None, Some, Result}
use Rattle.words.specs.Choice.{when◌then◌else◌}
use Rattle.octets.specs.Octets.{be16, be32}
use Rattle.message.specs.Message.{said, complete}
use Rattle.message.specs.Answers.{Answer, refused, result, in_numbers}
use Rattle.message.specs.declared.MessageType.{MessageType}
use Rattle.message.specs.declared.Part.{Part}
use Rattle.message.specs.declared.QueueInfo.{QueueInfo}
use Rattle.message.specs.declared.Refusal.{Refusal}
use Rattle.message.specs.declared.RejectCause.{RejectCause}
use Rattle.message.specs.declared.Message.{Message}
use Rattle.header.specs.Header.{ssrc_place, ack_bit}
use Rattle.header.specs.Opening.{opening}
use Rattle.field.specs.Fields.{Fields, whole, fault, fields_in}
use Rattle.walk.specs.Starts.{start_of}

-- what a message has of a field whose content starts at a place; nothing where that is 0. L stands before the content.
abbrev pub there : {A : Type 0} → ℕ → A → Option A
there at content = when eqb at 0 then None else Some content

unfoldable pub octet_at : List ℕ → ℕ → Option ℕ
octet_at s at = there at (get_or s at 0)

unfoldable pub word_at : List ℕ → ℕ → Option ℕ
word_at s at = there at (be16 s at)

unfoldable pub number_at : List ℕ → ℕ → Option ℕ
number_at s at = there at (be32 s at)

unfoldable pub queue_at : List ℕ → ℕ → Option QueueInfo
queue_at s at = there at (record { place = get_or s at 0; priority = get_or s (at + 1) 0 })

unfoldable pub part_at : List ℕ → ℕ → Option Part
part_at s at = there at (record { from = at; count = get_or s (at - 1) 0 })

unfoldable pub cause_at : List ℕ → ℕ → Option RejectCause
cause_at s at = there at (record { cause = be16 s at; phrase = record { from = at + 2; count = get_or s (at - 1) 0 - 2 } })

-- the message of a packet of this type, by the starts of its fields' contents
unfoldable pub message_at : MessageType → List ℕ → (ℕ → ℕ) → Message
message_at k s start =
    record {
      kind = k;
      ack = eqb (ack_bit s) 1;
      ssrc = be32 s ssrc_place;
      priority = octet_at s (start 0);
      duration = word_at s (start 1);
      cause = cause_at s (start 2);
      queue = queue_at s (start 3);
      granted = part_at s (start 4);
      permission = word_at s (start 5);
      user = part_at s (start 6);
      sequence = word_at s (start 8);
      source = word_at s (start 10);
      message_type = octet_at s (start 12);
      indicator = word_at s (start 13);
      ssrc_field = number_at s (start 14);
    }

-- 9, 14 and 10 as the fields are judged, 11 last
abbrev pub judged : MessageType → List ℕ → Fields → Answer Message
judged k s (fault n) = refused n
judged k s (whole fs) =
    when complete (said (message_at k s (start_of fs)) s) then result (message_at k s (start_of fs)) else refused 11

-- 1 to 8 by the first twelve octets, then the fields
abbrev pub opened : Answer MessageType → List ℕ → Answer Message
opened (refused n) s = refused n
opened (result k) s = judged k s (fields_in s)

unfoldable pub reading : List ℕ → Answer Message
reading s = opened (opening s) s

-- the reader's answer in the paper's numbers
abbrev pub reading_answer : Result Message Refusal → Answer Message
reading_answer answer = in_numbers answer

-- what a reader promises of its answer to a packet; of two such answers `packet_laws` proves that they are one
abbrev pub Reads : List ℕ → Result Message Refusal → Type 0
Reads s answer = reading_answer answer ≡ reading s
