-- What a field twice changes (document 02, #107: "From now on a second field with an ID of document 01's field table is refused, and
-- skipped IDs may still repeat"), against the walk that document 01 alone describes. Each statement here is proved in proofs/Repeats.
-- Assumes nothing.
use Rattle.std.specs.Prelude.{ℕ, zero, suc, ◌+◌, ◌≤◌, Bool, true, false, ◌||◌, List, [], ◌∷◌, ◌⊎◌, ◌≡◌, eqb, length}
use Rattle.words.specs.Choice.{one}
use Rattle.message.specs.declared.MessageType.{MessageType}
use Rattle.message.specs.declared.Message.{Message}
use Rattle.message.specs.Answers.{Answer, refused, result}
use Rattle.header.specs.Header.{header_size}
use Rattle.header.specs.Opening.{opening}
use Rattle.field.specs.declared.FieldFound.{FieldFound}
use Rattle.field.specs.declared.FieldStep.{FieldStep}
use Rattle.field.specs.declared.FieldStep.TheVariants.{Field, Skipped, End, PastTheEnd, AgainstTheTable}
use Rattle.field.specs.Fields.{step_at, Fields, whole, among, step_then, fields_in}
use Rattle.reading.specs.Reading.{judged, reading}

-- document 01 alone: each field is judged as if none had come before it; of a repeated ID `start_of`, in `judged`, finds the first
unfoldable pub fields_from01 : ℕ → List ℕ → ℕ → Fields
fields_from01 zero s at = whole []
fields_from01 (suc steps) s at = step_then [] (step_at s at) (λ past next. fields_from01 steps s next)

unfoldable pub fields_in01 : List ℕ → Fields
fields_in01 s = fields_from01 (length s) s header_size

abbrev pub opened01 : Answer MessageType → List ℕ → Answer Message
opened01 (refused n) s = refused n
opened01 (result k) s = judged k s (fields_in01 s)

unfoldable pub reading01 : List ℕ → Answer Message
reading01 s = opened01 (opening s) s

-- the IDs that are met from front to back: of each field of the table up to the first fault, and of the one at which that is 10. What lies
-- behind a fault is not met, nor a field that runs past the end: 9 comes before 14.
abbrev pub met_then : FieldStep → (ℕ → List ℕ) → List ℕ
met_then End rest = []
met_then PastTheEnd rest = []
met_then (AgainstTheTable i) rest = i ∷ []
met_then (Field f) rest = f.id ∷ rest f.next
met_then (Skipped f) rest = rest f.next

unfoldable pub met_from : ℕ → List ℕ → ℕ → List ℕ
met_from zero s at = []
met_from (suc steps) s at = met_then (step_at s at) (λ next. met_from steps s next)

-- whether an ID is met twice
unfoldable pub twice_behind : List ℕ → List ℕ → Bool
twice_behind before [] = false
twice_behind before (i ∷ is) = among before i || twice_behind (i ∷ before) is

unfoldable pub repeats : List ℕ → Bool
repeats s = twice_behind [] (met_from (length s) s header_size)

-- no table ID is met twice: the answer is document 01's
abbrev pub NoneTwice : Type 0
NoneTwice = (s : List ℕ) → repeats s ≡ false → reading s ≡ reading01 s

-- one is: the answer is 14, whatever document 01 would have said of the fields, and of what is missing
abbrev pub OneTwice : Type 0
OneTwice = (s : List ℕ) (k : MessageType) → opening s ≡ result k → repeats s ≡ true → reading s ≡ refused 14

-- so nothing is read that was not read, as the same message; and where document 01 found a fault, that fault is given, or 14 before it
abbrev pub ReadAsBefore : Type 0
ReadAsBefore = (s : List ℕ) (m : Message) → reading s ≡ result m → reading01 s ≡ result m

abbrev pub FaultOrFourteen : Type 0
FaultOrFourteen = (s : List ℕ) (n : ℕ) → reading01 s ≡ refused n → (reading s ≡ refused n) ⊎ (reading s ≡ refused 14)

-- a message's fields are found by their ID: where the fields are whole there is one of each at most
unfoldable pub with_id : List FieldFound → ℕ → ℕ
with_id [] i = 0
with_id (f ∷ fs) i = one (eqb i f.id) + with_id fs i

abbrev pub OneOfEach : Type 0
OneOfEach = (s : List ℕ) (fs : List FieldFound) (i : ℕ) → fields_in s ≡ whole fs → with_id fs i ≤ 1
