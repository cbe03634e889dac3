-- Worked packets, each by computing alone: octets written here by hand from document 01 ("The packet", "What is answered to packets",
-- "Thursday's exercise") and document 02 (#107), so that the definitions are held from outside. A packet's first line is its head. Assumes
-- nothing.
use Rattle.std.specs.Prelude.{ℕ, ◌≡◌, refl, Bool, true, false, List, [], ◌∷◌, eqb, None, Some}
use Rattle.words.specs.Choice.{when◌then◌else◌}
use Rattle.octets.specs.Octets.{be16, be32, octets16, octets32, part}
use Rattle.message.specs.declared.MessageType.{MessageType}
use Rattle.message.specs.declared.MessageType.TheVariants.{Request, Granted, Taken, Deny, Idle, Ack}
use Rattle.message.specs.Table.{row_in, listed_in, against, at_fault, padding, padded}
use Rattle.message.specs.Message.{Field, field, Said, said, has, has_all, complete}
use Rattle.message.specs.Answers.{refused}
use Rattle.field.specs.Fields.{step_at, among, fields_from, fields_in}
use Rattle.walk.specs.Starts.{start_of}
use Rattle.reading.specs.Reading.{octet_at, word_at, number_at, queue_at, part_at, cause_at, message_at, reading}
use Rattle.field_writing.specs.Wire.{field_octets, optional, body}
use Rattle.writing.specs.Wire.{header, wire}
use Rattle.header.specs.Header.{ends, headed, first_octet}
use Rattle.header.specs.Opening.{opening}
use Rattle.packet_laws.specs.Again.{ReadsAs}

-- a message with these fields and no others: type, Ack bit, SSRC, and the content of each field that it has
abbrev at : List Field → ℕ → Field
at [] i = field i None
at (f ∷ fs) i = when eqb i f.id then f else at fs i

abbrev with : MessageType → Bool → ℕ → List Field → Said
with k asks_ack ssrc fs =
    record {
      kind = k;
      ack = asks_ack;
      ssrc = ssrc;
      fields =
          at fs 0 ∷ at fs 1 ∷ at fs 2 ∷ at fs 3 ∷ at fs 4 ∷ at fs 5 ∷ at fs 6
          ∷ at fs 8 ∷ at fs 10 ∷ at fs 12 ∷ at fs 13 ∷ at fs 14 ∷ [];
    }

-- all that reading and writing stand on, opened, so that a packet computes
opened : Type 0
unfolding
    reading opening ends message_at octet_at word_at number_at queue_at part_at cause_at fields_in fields_from step_at among listed_in
    start_of
    wire header headed first_octet body optional field_octets said complete has_all has against at_fault row_in padded padding
    be16 be32 octets16 octets32 part when◌then◌else◌
opened = ℕ

-- "Deny #7 from desk SSRC 1": cause 7, no phrase, nothing else
abbrev deny7 : List ℕ
deny7 =
    0x83 ∷ 0xCC ∷ 0x00 ∷ 0x03 ∷ 0x00 ∷ 0x00 ∷ 0x00 ∷ 0x01 ∷ 0x4D ∷ 0x43 ∷ 0x50 ∷ 0x54
    ∷ 0x02 ∷ 0x02 ∷ 0x00 ∷ 0x07 ∷ []

abbrev denies : Bool → Said
denies asks_ack = with Deny asks_ack 1 (field 2 (Some (0 ∷ 7 ∷ [])) ∷ [])

pub deny7_read : ReadsAs deny7 (denies false)
unfolding opened
deny7_read = record { message = _; read = refl; same = refl }

pub deny7-written : wire (denies false) ≡ deny7
unfolding opened
deny7-written = refl

-- "With the Ack bit it begins 93"
abbrev deny7ack : List ℕ
deny7ack =
    0x93 ∷ 0xCC ∷ 0x00 ∷ 0x03 ∷ 0x00 ∷ 0x00 ∷ 0x00 ∷ 0x01 ∷ 0x4D ∷ 0x43 ∷ 0x50 ∷ 0x54
    ∷ 0x02 ∷ 0x02 ∷ 0x00 ∷ 0x07 ∷ []

pub deny7ack_read : ReadsAs deny7ack (denies true)
unfolding opened
deny7ack_read = record { message = _; read = refl; same = refl }

pub deny7ack-written : wire (denies true) ≡ deny7ack
unfolding opened
deny7ack-written = refl

-- "Fields come in any order", "Padding and spare octets are written zero and ignored when read", "The writer puts IDs in ascending order":
-- a duration of 60 seconds, then priority 5 with its spare octet set
abbrev granted : List ℕ
granted =
    0x81 ∷ 0xCC ∷ 0x00 ∷ 0x04 ∷ 0x00 ∷ 0x00 ∷ 0x00 ∷ 0x01 ∷ 0x4D ∷ 0x43 ∷ 0x50 ∷ 0x54
    ∷ 0x01 ∷ 0x02 ∷ 0x00 ∷ 0x3C
    ∷ 0x00 ∷ 0x02 ∷ 0x05 ∷ 0xFF ∷ []

abbrev granted_again : List ℕ
granted_again =
    0x81 ∷ 0xCC ∷ 0x00 ∷ 0x04 ∷ 0x00 ∷ 0x00 ∷ 0x00 ∷ 0x01 ∷ 0x4D ∷ 0x43 ∷ 0x50 ∷ 0x54
    ∷ 0x00 ∷ 0x02 ∷ 0x05 ∷ 0x00
    ∷ 0x01 ∷ 0x02 ∷ 0x00 ∷ 0x3C ∷ []

abbrev grants : Said
grants = with Granted false 1 (field 0 (Some (5 ∷ [])) ∷ field 1 (Some (0 ∷ 60 ∷ [])) ∷ [])

pub granted_read : ReadsAs granted grants
unfolding opened
granted_read = record { message = _; read = refl; same = refl }

pub granted-written : wire grants ≡ granted_again
unfolding opened
granted-written = refl

-- "An identity is answered as the part of the lent packet that holds it": five octets, test1, from the fifteenth on; the padding is set
abbrev taken : List ℕ
taken =
    0x82 ∷ 0xCC ∷ 0x00 ∷ 0x05 ∷ 0x00 ∷ 0x00 ∷ 0x00 ∷ 0x01 ∷ 0x4D ∷ 0x43 ∷ 0x50 ∷ 0x54
    ∷ 0x04 ∷ 0x05 ∷ 0x74 ∷ 0x65 ∷ 0x73 ∷ 0x74 ∷ 0x31 ∷ 0xFF
    ∷ 0x08 ∷ 0x02 ∷ 0x00 ∷ 0x02 ∷ []

pub taken_read : ReadsAs taken
    (with Taken false 1 (field 4 (Some (0x74 ∷ 0x65 ∷ 0x73 ∷ 0x74 ∷ 0x31 ∷ [])) ∷ field 8 (Some (0 ∷ 2 ∷ [])) ∷ []))
unfolding opened
taken_read = record { message = _; read = refl; same = refl }

pub taken-part : taken_read.message.granted ≡ Some (record { from = 14; count = 5 })
unfolding opened taken_read
taken-part = refl

-- an Idle with sequence number 65,535, and an Ack of a Granted (Source 2, Message Type 1)
abbrev idle : List ℕ
idle =
    0x85 ∷ 0xCC ∷ 0x00 ∷ 0x03 ∷ 0x00 ∷ 0x00 ∷ 0x00 ∷ 0x01 ∷ 0x4D ∷ 0x43 ∷ 0x50 ∷ 0x54
    ∷ 0x08 ∷ 0x02 ∷ 0xFF ∷ 0xFF ∷ []

pub idle_read : ReadsAs idle (with Idle false 1 (field 8 (Some (255 ∷ 255 ∷ [])) ∷ []))
unfolding opened
idle_read = record { message = _; read = refl; same = refl }

abbrev acked : List ℕ
acked =
    0x8A ∷ 0xCC ∷ 0x00 ∷ 0x04 ∷ 0x00 ∷ 0x00 ∷ 0x00 ∷ 0x01 ∷ 0x4D ∷ 0x43 ∷ 0x50 ∷ 0x54
    ∷ 0x0A ∷ 0x02 ∷ 0x00 ∷ 0x02
    ∷ 0x0C ∷ 0x02 ∷ 0x01 ∷ 0x00 ∷ []

pub acked_read : ReadsAs acked (with Ack false 1 (field 10 (Some (0 ∷ 2 ∷ [])) ∷ field 12 (Some (1 ∷ [])) ∷ []))
unfolding opened
acked_read = record { message = _; read = refl; same = refl }

-- "Every other ID below 192 is skipped by its length", "skipped IDs may still repeat": ID 7 with three octets, priority 5, and 7 again
abbrev asks : List ℕ
asks =
    0x80 ∷ 0xCC ∷ 0x00 ∷ 0x06 ∷ 0x00 ∷ 0x00 ∷ 0x00 ∷ 0x01 ∷ 0x4D ∷ 0x43 ∷ 0x50 ∷ 0x54
    ∷ 0x07 ∷ 0x03 ∷ 0x00 ∷ 0x02 ∷ 0x09 ∷ 0x00 ∷ 0x00 ∷ 0x00
    ∷ 0x00 ∷ 0x02 ∷ 0x05 ∷ 0x00
    ∷ 0x07 ∷ 0x02 ∷ 0x09 ∷ 0x00 ∷ []

pub asks_read : ReadsAs asks (with Request false 1 (field 0 (Some (5 ∷ [])) ∷ []))
unfolding opened
asks_read = record { message = _; read = refl; same = refl }

-- "9 before 10 at one field", "For an ID of 192 or above, 10 comes before 9": both run past the end
abbrev past : List ℕ
past =
    0x80 ∷ 0xCC ∷ 0x00 ∷ 0x03 ∷ 0x00 ∷ 0x00 ∷ 0x00 ∷ 0x01 ∷ 0x4D ∷ 0x43 ∷ 0x50 ∷ 0x54
    ∷ 0x0A ∷ 0xFF ∷ 0x00 ∷ 0x04 ∷ []

pub past-refused : reading past ≡ refused 9
unfolding opened
past-refused = refl

abbrev above : List ℕ
above =
    0x80 ∷ 0xCC ∷ 0x00 ∷ 0x03 ∷ 0x00 ∷ 0x00 ∷ 0x00 ∷ 0x01 ∷ 0x4D ∷ 0x43 ∷ 0x50 ∷ 0x54
    ∷ 0xC0 ∷ 0xFF ∷ 0x00 ∷ 0x00 ∷ []

pub above-refused : reading above ≡ refused 10
unfolding opened
above-refused = refl

-- "A faulty handset sent two Floor Priority fields": 14. The second is priority 9; it has a wrong L; it runs past the end.
abbrev twice : ℕ → List ℕ
twice l =
    0x80 ∷ 0xCC ∷ 0x00 ∷ 0x04 ∷ 0x00 ∷ 0x00 ∷ 0x00 ∷ 0x01 ∷ 0x4D ∷ 0x43 ∷ 0x50 ∷ 0x54
    ∷ 0x00 ∷ 0x02 ∷ 0x05 ∷ 0x00
    ∷ 0x00 ∷ l ∷ 0x09 ∷ 0x00 ∷ []

pub twice-refused : reading (twice 2) ≡ refused 14
unfolding opened
twice-refused = refl

-- "at the second field, after 9 and before 10"
pub twice_before_10 : reading (twice 1) ≡ refused 14
unfolding opened
twice_before_10 = refl

pub twice_after_9 : reading (twice 3) ≡ refused 9
unfolding opened
twice_after_9 = refl

-- front to back: a field between the two that is against the table (Source 4) is met first; behind them it comes too late
abbrev between : List ℕ
between =
    0x80 ∷ 0xCC ∷ 0x00 ∷ 0x05 ∷ 0x00 ∷ 0x00 ∷ 0x00 ∷ 0x01 ∷ 0x4D ∷ 0x43 ∷ 0x50 ∷ 0x54
    ∷ 0x00 ∷ 0x02 ∷ 0x05 ∷ 0x00
    ∷ 0x0A ∷ 0x02 ∷ 0x00 ∷ 0x04
    ∷ 0x00 ∷ 0x02 ∷ 0x09 ∷ 0x00 ∷ []

pub between-refused : reading between ≡ refused 10
unfolding opened
between-refused = refl

abbrev behind : List ℕ
behind =
    0x80 ∷ 0xCC ∷ 0x00 ∷ 0x05 ∷ 0x00 ∷ 0x00 ∷ 0x00 ∷ 0x01 ∷ 0x4D ∷ 0x43 ∷ 0x50 ∷ 0x54
    ∷ 0x00 ∷ 0x02 ∷ 0x05 ∷ 0x00
    ∷ 0x00 ∷ 0x02 ∷ 0x09 ∷ 0x00
    ∷ 0x0A ∷ 0x02 ∷ 0x00 ∷ 0x04 ∷ []

pub behind-refused : reading behind ≡ refused 14
unfolding opened
behind-refused = refl

-- 11 last: a Granted that says its priority twice and no duration
abbrev lacks : List ℕ
lacks =
    0x81 ∷ 0xCC ∷ 0x00 ∷ 0x04 ∷ 0x00 ∷ 0x00 ∷ 0x00 ∷ 0x01 ∷ 0x4D ∷ 0x43 ∷ 0x50 ∷ 0x54
    ∷ 0x00 ∷ 0x02 ∷ 0x05 ∷ 0x00
    ∷ 0x00 ∷ 0x02 ∷ 0x05 ∷ 0x00 ∷ []

pub lacks-refused : reading lacks ≡ refused 14
unfolding opened
lacks-refused = refl
