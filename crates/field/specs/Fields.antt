-- The fields of a packet, judged from front to back (document 01, "The packet" and "What is answered to packets", 9 and 10; document 02,
-- #107, 14). Assumes nothing.
use Rattle.std.specs.Prelude.{ℕ, zero, suc, ◌+◌, Bool, false, not, ◌||◌, List, [], ◌∷◌, ltb, leb, eqb, length, get_or}
use Rattle.words.specs.Choice.{when◌then◌else◌}
use Rattle.octets.specs.Octets.{be16}
use Rattle.message.specs.Table.{listed, against, padded}
use Rattle.message.specs.Answers.{refusal_number}
use Rattle.header.specs.Header.{header_size}
use Rattle.message.specs.declared.Refusal.{Refusal}
use Rattle.field.specs.declared.FieldFound.{FieldFound}
use Rattle.field.specs.declared.FieldStep.{FieldStep}
use Rattle.field.specs.declared.FieldStep.TheVariants.{Field, Skipped, End, PastTheEnd, AgainstTheTable}

-- the field whose ID stands at a place: its ID, where its content starts, its L, and where the next field starts
abbrev pub id_at : List ℕ → ℕ → ℕ
id_at s at = get_or s at 0

abbrev pub length_at : List ℕ → ℕ → ℕ
length_at s at = get_or s (at + 1) 0

abbrev pub field_at : List ℕ → ℕ → FieldFound
field_at s at = record { id = id_at s at; start = at + 2; len = length_at s at; next = at + padded (length_at s at) }

-- one field judged by itself: 9 before 10, but "For an ID of 192 or above, 10 comes before 9"; "Every other ID below 192 is skipped by its
-- length". A field that is against the table is told with its ID.
unfoldable pub step_at : List ℕ → ℕ → FieldStep
step_at s at =
    when leb (length s) at then End
    else when leb 192 (id_at s at) then AgainstTheTable (id_at s at)
    else when ltb (length s) (at + padded (length_at s at)) then PastTheEnd
    else when not (listed (id_at s at)) then Skipped (field_at s at)
    else when against (id_at s at) (length_at s at) (be16 s (at + 2)) then AgainstTheTable (id_at s at)
    else Field (field_at s at)

-- all fields of the table: those found, in their order, or the number of the first refusal
pub data Fields : Type 0 where
  whole : List FieldFound → Fields
  fault : ℕ → Fields

abbrev pub infront : FieldFound → Fields → Fields
infront f (whole fs) = whole (f ∷ fs)
infront f (fault n) = fault n

-- whether an ID is among those that came before
unfoldable pub among : List ℕ → ℕ → Bool
among [] i = false
among (j ∷ before) i = eqb i j || among before i

-- what a step adds to the fields behind it, by the table's IDs that came before it: "a second field with an ID of document 01's field table
-- is refused, and skipped IDs may still repeat". A fault has the number of its refusal: 9; 14, "at the second field, after 9 and before
-- 10"; 10.
abbrev pub step_then : List ℕ → FieldStep → (List ℕ → ℕ → Fields) → Fields
step_then before End rest = whole []
step_then before PastTheEnd rest = fault (refusal_number Refusal.PastTheEnd)
step_then before (AgainstTheTable i) rest =
    when among before i then fault (refusal_number Refusal.Repeated) else fault (refusal_number Refusal.AgainstTheTable)
step_then before (Field f) rest =
    when among before f.id then fault (refusal_number Refusal.Repeated) else infront f (rest (f.id ∷ before) f.next)
step_then before (Skipped f) rest = rest before f.next

-- from a place on, behind fields with these IDs; a field has at least 4 octets, so as many steps as there are octets are enough
unfoldable pub fields_from : ℕ → List ℕ → List ℕ → ℕ → Fields
fields_from zero before s at = whole []
fields_from (suc steps) before s at = step_then before (step_at s at) (λ past next. fields_from steps past s next)

-- the fields stand behind the name, and none before the first
unfoldable pub fields_in : List ℕ → Fields
fields_in s = fields_from (length s) [] s header_size
