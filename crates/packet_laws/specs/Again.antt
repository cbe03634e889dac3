-- What is written reads back, what was read can be written again, and no promise leaves a choice (document 01, "The packet", "What is
-- answered to packets" and "How strictly it is stated"). Each statement here is proved in proofs/, in the file named beside it.
-- Assumes nothing.
use Rattle.std.specs.Prelude.{ℕ, ◌+◌, ◌≤◌, ◌≡◌, true, List, [], length, take, drop, Result, Ok, Err}
use Rattle.message.specs.declared.Message.{Message}
use Rattle.message.specs.declared.Refusal.{Refusal}
use Rattle.message.specs.Message.{Said, said, lies}
use Rattle.message.specs.Answers.{Answer, result, refusal_number}
use Rattle.message.specs.declared.MessageType.{MessageType}
use Rattle.field.specs.Fields.{fields_from, fields_in}
use Rattle.reading.specs.Judging.{Judges}
use Rattle.reading.specs.Reading.{reading, Reads}
use Rattle.writing.specs.Wire.{wire}
use Rattle.octets.specs.Octets.{Laid}
use Rattle.readable.specs.Readable.{readable}
use Rattle.writing.specs.Writing.{Tells, Writes}
use Rattle.header.specs.Header.{header_size}
use Rattle.header.specs.Opening.{Opens}
use Rattle.walk.specs.Walk.{Walked}

-- reading these octets gives a message, and it says this
pub record ReadsAs (s : List ℕ) (what : Said) : Type 0 where
  pub message : Message
  pub read : reading s ≡ result message
  pub same : said message s ≡ what

-- Read back (proofs/Back): "12 (writer) a message that no reader would accept"; any other, as octets, reads as the same message.
abbrev pub ReadBack : Type 0
ReadBack = (m : Message) (src : List ℕ) → readable m src ≡ true → ReadsAs (wire (said m src)) (said m src)

-- Written again (proofs/Again): a message that was read is one that the writer accepts, its octets read as the same message, and they
-- are no more than there were. A message has no spare octets, padding or skipped fields: the writer puts zeros for the first two, and
-- nothing for the last.
pub record WrittenAgain (s : List ℕ) (m : Message) : Type 0 where
  pub accepted : readable m s ≡ true
  pub again : ReadsAs (wire (said m s)) (said m s)
  pub no_longer : length (wire (said m s)) ≤ length s

abbrev pub ReadIsWritten : Type 0
ReadIsWritten = (s : List ℕ) (m : Message) → reading s ≡ result m → WrittenAgain s m

-- "12 (writer) a message that no reader would accept" (proofs/Again), and no other message: where any octets read as it, and its parts lie
-- in the source, the writer accepts it.
abbrev pub OnlyTwelve : Type 0
OnlyTwelve = (m : Message) (src s : List ℕ) → lies m src ≡ true → ReadsAs s (said m src) → readable m src ≡ true

-- Every field is judged (proofs/Steps): the walk's steps never run out before the packet does, however many more it were given.
abbrev pub StepsSuffice : Type 0
StepsSuffice = (s : List ℕ) (more : ℕ) → fields_from (length s + more) [] s header_size ≡ fields_in s

-- The same through the promises of the code (proofs/Promised), by the very definitions that `reading::read` and `writing::write` promise:
-- `Reads` of an answer q to s, `Writes` of an answer r and of the room as it is left. First, the answer q to s is a message, and it says
-- this.
pub record IsRead (s : List ℕ) (q : Result Message Refusal) (what : Said) : Type 0 where
  pub message : Message
  pub read : q ≡ Ok message
  pub same : said message s ≡ what

-- a writer that answers n leaves n octets that any reader reads as the same message
abbrev pub WriteThenRead : Type 0
WriteThenRead =
    (m : Message) (src room room' : List ℕ) (r : Result ℕ Refusal) (n : ℕ) (q : Result Message Refusal) → Writes m src room r room' →
    r ≡ Ok n
    → Reads (take n room') q → IsRead (take n room') q (said m src)

-- "A refusal returns its number only and writes nothing; a result leaves the room past its end untouched"
abbrev pub RefusedLeavesRoom : Type 0
RefusedLeavesRoom =
    (m : Message) (src room room' : List ℕ) (r : Result ℕ Refusal) (why : Refusal) → Writes m src room r room' → r ≡ Err why
    → room' ≡ room

abbrev pub RestUntouched : Type 0
RestUntouched =
    (m : Message) (src room room' : List ℕ) (r : Result ℕ Refusal) (n : ℕ) → Writes m src room r room' → r ≡ Ok n
    → drop n room' ≡ drop n room

-- what a reader read from s, a writer with room for s writes, and any reader reads it as the same message
pub record SameAgain (s : List ℕ) (m : Message) (r : Result ℕ Refusal) (room' : List ℕ) : Type 0 where
  pub count : ℕ
  pub wrote : r ≡ Ok count
  pub read_again : (q : Result Message Refusal) → Reads (take count room') q → IsRead (take count room') q (said m s)

abbrev pub ReadThenWrite : Type 0
ReadThenWrite =
    (s room room' : List ℕ) (q : Result Message Refusal) (m : Message) (r : Result ℕ Refusal) → Reads s q → q ≡ Ok m →
    length s ≤ length room
    → Writes m s room r room' → SameAgain s m r room'

-- "any two results it would allow are proved to coincide" (proofs/Coincide)
abbrev pub NumbersDiffer : Type 0
NumbersDiffer = (a b : Refusal) → refusal_number a ≡ refusal_number b → a ≡ b

abbrev pub ReadersCoincide : Type 0
ReadersCoincide = (s : List ℕ) (q q' : Result Message Refusal) → Reads s q → Reads s q' → q ≡ q'

pub record SameResult (r r' : Result ℕ Refusal) (room room' : List ℕ) : Type 0 where
  pub answers : r ≡ r'
  pub rooms : room ≡ room'

-- of every writer, whatever it tells and leaves: `Tells` is what `writing::write`, `outgoing::send` and `message_writing::write_held`
-- promise
abbrev pub WritersCoincide : Type 0
WritersCoincide =
    (tells : Answer ℕ) (leaves : List ℕ) (r r' : Result ℕ Refusal) (room room' : List ℕ) → Tells tells leaves r room →
    Tells tells leaves r' room'
    → SameResult r r' room room'

-- and of what the writer's leaves lay
abbrev pub LaysCoincide : Type 0
LaysCoincide =
    (before octets after after' : List ℕ) (at end end' : ℕ) → Laid before at octets after end → Laid before at octets after' end'
    → (end ≡ end') × (after ≡ after')

pub record SameJudgement (r r' : Result MessageType Refusal) (starts starts' : List ℕ) : Type 0 where
  pub answers : r ≡ r'
  pub noted : starts ≡ starts'

abbrev pub JudgesCoincide : Type 0
JudgesCoincide =
    (s : List ℕ) (r r' : Result MessageType Refusal) (starts starts' : List ℕ) → Judges s r starts → Judges s r' starts'
    → SameJudgement r r' starts starts'

-- and of the two parts that a packet is judged by
abbrev pub OpeningsCoincide : Type 0
OpeningsCoincide = (s : List ℕ) (r r' : Result MessageType Refusal) → Opens s r → Opens s r' → r ≡ r'

abbrev pub WalksCoincide : Type 0
WalksCoincide =
    (s : List ℕ) (w w' : Result (Unit {0}) Refusal) (starts starts' : List ℕ) → Walked (fields_in s) w starts
    → Walked (fields_in s) w' starts'
    → (w ≡ w') × (starts ≡ starts')
