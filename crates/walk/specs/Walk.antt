-- How the walk is held in the code: the starts of the table's fields found so far, in an array of 16, one for each ID below 16. What the
-- walk is stands in field/specs/Fields. Assumes nothing.
use Rattle.std.specs.Prelude.{ℕ, ◌<◌, ◌≤◌, ◌+◌, ◌-◌, Bool, true, false, not, ◌&&◌, List, ◌≡◌, ltb, eqb, length, get_or, set, replicate}
use Rattle.std.specs.Prelude.{Result, Ok, Err, IsErr}
use Rattle.words.specs.Choice.{when◌then◌else◌}
use Rattle.message.specs.Answers.{refusal_number}
use Rattle.message.specs.declared.Refusal.{Refusal}
use Rattle.header.specs.Header.{header_size}
use Rattle.field.specs.declared.FieldFound.{FieldFound}
use Rattle.field.specs.declared.FieldStep.{FieldStep}
use Rattle.field.specs.Fields.{Fields, whole, fault}
use Rattle.walk.specs.Starts.{start_of}

-- whether a field with this ID has been noted: the array is the memory of what came before
abbrev pub has_come : List ℕ → ℕ → Bool
has_come starts i = ltb i 16 && not (eqb (get_or starts i 0) 0)

-- a start noted, if none with its ID came before
unfoldable pub noted : List ℕ → ℕ → ℕ → List ℕ
noted starts i start = when ltb i 16 && eqb (get_or starts i 0) 0 then set starts i start else starts

-- whether a walk goes on behind what was handed out, and what that adds to the array
abbrev pub is_passed : List ℕ → FieldStep → Bool
is_passed starts (FieldStep.Field f) = not (has_come starts f.id)
is_passed starts (FieldStep.Skipped f) = true
is_passed starts FieldStep.End = false
is_passed starts FieldStep.PastTheEnd = false
is_passed starts (FieldStep.AgainstTheTable i) = false

abbrev pub noted_step : List ℕ → FieldStep → List ℕ
noted_step starts (FieldStep.Field f) = noted starts f.id f.start
noted_step starts (FieldStep.Skipped f) = starts
noted_step starts FieldStep.End = starts
noted_step starts FieldStep.PastTheEnd = starts
noted_step starts (FieldStep.AgainstTheTable i) = starts

-- how a walk ended, by what was handed out last
abbrev pub ended_by : List ℕ → FieldStep → Result (Unit {0}) Refusal
ended_by starts (FieldStep.Field f) = Err Refusal.Repeated
ended_by starts (FieldStep.Skipped f) = Ok tt
ended_by starts FieldStep.End = Ok tt
ended_by starts FieldStep.PastTheEnd = Err Refusal.PastTheEnd
ended_by starts (FieldStep.AgainstTheTable i) = Err (when has_come starts i then Refusal.Repeated else Refusal.AgainstTheTable)

-- the array has the start of each ID below 16
pub record Notes (starts : List ℕ) (fs : List FieldFound) : Type 0 where
  pub long : length starts ≡ 16
  pub has : (i : ℕ) → i < 16 → get_or starts i 0 ≡ start_of fs i

-- an array with no start
abbrev pub no_starts : List ℕ
no_starts = replicate 16 0

-- the paper's number for a walk that ended at a fault
abbrev pub fault_number : Result (Unit {0}) Refusal → ℕ
fault_number (Ok done) = 0
fault_number (Err r) = refusal_number r

-- what the walk's answer and its array say of the fields: the array has their starts, or, where one is at fault, there is the refusal of
-- the first that is, and no start
abbrev pub Walked : Fields → Result (Unit {0}) Refusal → List ℕ → Type 0
Walked (whole fs) (Ok done) starts = Notes starts fs
Walked (whole fs) (Err r) starts = ⊥
Walked (fault n) answer starts = (fault_number answer ≡ n) × IsErr answer × (starts ≡ no_starts)

-- the starts lie in the packet, with as much behind them as is read there
pub record Reach (s : List ℕ) (start : ℕ → ℕ) : Type 0 where
  pub long : header_size ≤ length s
  pub two : (i : ℕ) → start i + 2 ≤ length s
  pub four : start 14 + 4 ≤ length s
  pub cause : (start 2 ≡ 0 → ⊥) → 2 ≤ get_or s (start 2 - 1) 0

-- the array notes all fields of a packet; where one of them is at fault, no array does
abbrev pub Noted : Fields → List ℕ → Type 0
Noted (whole fs) starts = Notes starts fs
Noted (fault n) starts = ⊥
