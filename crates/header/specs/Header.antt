-- A packet's first twelve octets (document 01, "The packet"): "Octet 0: version 2 (two bits), P (one bit), subtype (five bits). Octet 1:
-- 204. Octets 2 and 3: length in 32-bit words less one (RFC 3550). Then SSRC (4 octets), the name MCPT, the fields." Assumes nothing.
use Rattle.std.specs.Prelude.{ℕ, ◌+◌, ◌-◌, ◌*◌, ◌/◌, ◌%◌, Bool, List, ◌∷◌, ◌++◌, get_or}
use Rattle.words.specs.Choice.{when◌then◌else◌}
use Rattle.octets.specs.Octets.{be16, octets16, octets32}
use Rattle.message.specs.Types.{type_number}
use Rattle.message.specs.declared.MessageType.{MessageType}

-- where the length, SSRC and the name stand; the fields stand behind these twelve octets
abbrev pub length_place : ℕ
length_place = 2

abbrev pub ssrc_place : ℕ
ssrc_place = 4

abbrev pub name_place : ℕ
name_place = 8

abbrev pub header_size : ℕ
header_size = 12

-- the longest packet that a message can make: with every field, identities and phrase at their longest (proved in `writing`)
abbrev pub longest_packet : ℕ
longest_packet = 440

-- the first octet: version (two bits), P (one bit), the Ack bit, the type (four bits)
abbrev pub version : List ℕ → ℕ
version s = get_or s 0 0 / 64

abbrev pub pad_bit : List ℕ → ℕ
pad_bit s = get_or s 0 0 / 32 % 2

abbrev pub ack_bit : List ℕ → ℕ
ack_bit s = get_or s 0 0 / 16 % 2

abbrev pub type_bits : List ℕ → ℕ
type_bits s = get_or s 0 0 % 16

-- where a packet ends by what its length says: "4 × (length + 1)"
unfoldable pub ends : List ℕ → ℕ
ends s = 4 * (be16 s length_place + 1)

-- the letters M, C, P, T
abbrev pub name : ℕ
name = 0x4D43_5054

-- the same written: version 2, P not set, the Ack bit and the type
unfoldable pub first_octet : MessageType → Bool → ℕ
first_octet kind ack = 128 + (when ack then 16 else 0) + type_number kind

-- the header of a packet that has this first octet, this SSRC and so many octets in all
unfoldable pub headed : ℕ → ℕ → ℕ → List ℕ
headed first ssrc size = first ∷ 204 ∷ octets16 (size / 4 - 1) ++ octets32 ssrc ++ octets32 name
