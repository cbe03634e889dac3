-- What is answered to a packet by its first twelve octets (document 01, "What is answered to packets", 1 to 8, in that order): the refusal,
-- or the packet's type. Assumes nothing.
use Rattle.std.specs.Prelude.{ℕ, not, List, ◌≡◌, ltb, eqb, length, get_or, Option, None, Some, Result}
use Rattle.words.specs.Choice.{when◌then◌else◌}
use Rattle.octets.specs.Octets.{be32}
use Rattle.message.specs.Types.{typed}
use Rattle.message.specs.Answers.{Answer, refused, result, in_numbers}
use Rattle.message.specs.declared.MessageType.{MessageType}
use Rattle.message.specs.declared.Refusal.{Refusal}
use Rattle.header.specs.Header.{header_size, name_place, version, pad_bit, type_bits, ends, name}

abbrev pub of_type : Option MessageType → Answer MessageType
of_type None = refused 8
of_type (Some k) = result k

unfoldable pub opening : List ℕ → Answer MessageType
opening s =
    when ltb (length s) header_size then refused 1
    else when ltb 1024 (length s) then refused 2
    else when not (eqb (version s) 2) then refused 3
    else when eqb (pad_bit s) 1 then refused 4
    else when not (eqb (get_or s 1 0) 204) then refused 5
    else when not (eqb (ends s) (length s)) then refused 6
    else when not (eqb (be32 s name_place) name) then refused 7
    else of_type (typed (type_bits s))

-- the code's answer in the paper's numbers
abbrev pub opening_answer : Result MessageType Refusal → Answer MessageType
opening_answer answer = in_numbers answer

-- what is promised of an answer to a packet; of two such answers `packet_laws` proves that they are one
abbrev pub Opens : List ℕ → Result MessageType Refusal → Type 0
Opens s answer = opening_answer answer ≡ opening s
