-- What the writer answers and what it leaves in the room (document 01, "What is answered to packets": 12, then 13). Assumes nothing.
use Rattle.std.specs.Prelude.{ℕ, not, List, ◌≡◌, ltb, length, Result}
use Rattle.words.specs.Choice.{when◌then◌else◌}
use Rattle.octets.specs.Octets.{over}
use Rattle.message.specs.Message.{said}
use Rattle.message.specs.Answers.{Answer, refused, result, in_numbers}
use Rattle.message.specs.declared.Message.{Message}
use Rattle.readable.specs.Readable.{readable}
use Rattle.writing.specs.Wire.{wire}
use Rattle.message.specs.declared.Refusal.{Refusal}

-- 12 (writer) a message that no reader would accept; 13 the lent room is shorter than the whole result; else how many octets it has
unfoldable pub writing : Message → List ℕ → ℕ → Answer ℕ
writing m src room =
    when not (readable m src) then refused 12
    else when ltb room (length (wire (said m src))) then refused 13
    else result (length (wire (said m src)))

-- "A refusal returns its number only and writes nothing; a result leaves the room past its end untouched"
abbrev pub left : Answer ℕ → List ℕ → List ℕ → List ℕ
left (refused n) octets room = room
left (result n) octets room = over room 0 octets

unfoldable pub written : Message → List ℕ → List ℕ → List ℕ
written m src room = left (writing m src (length room)) (wire (said m src)) room

-- the writer's answer in the paper's numbers
abbrev pub writing_answer : Result ℕ Refusal → Answer ℕ
writing_answer answer = in_numbers answer

-- what every writer promises of its answer and of the room as it leaves it; of two such results `packet_laws` proves that they are one
abbrev pub Tells : Answer ℕ → List ℕ → Result ℕ Refusal → List ℕ → Type 0
Tells said leaves answer after = (writing_answer answer ≡ said) × (after ≡ leaves)

abbrev pub Writes : Message → List ℕ → List ℕ → Result ℕ Refusal → List ℕ → Type 0
Writes m src room answer after = Tells (writing m src (length room)) (written m src room) answer after
