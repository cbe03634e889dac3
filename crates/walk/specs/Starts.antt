-- Where the fields of a packet start (document 01, "The packet"). Which they are stands in field/specs/Fields. Assumes nothing.
use Rattle.std.specs.Prelude.{ℕ, List, [], ◌∷◌, eqb}
use Rattle.words.specs.Choice.{when◌then◌else◌}
use Rattle.field.specs.declared.FieldFound.{FieldFound}

-- A message's fields are found by their ID: where the content of the field with this ID starts; 0 if there is none, since none starts
-- there. There is one of each (document 02, #107; `OneOfEach` of packet_laws/specs/Repeats).
unfoldable pub start_of : List FieldFound → ℕ → ℕ
start_of [] i = 0
start_of (f ∷ fs) i = when eqb i f.id then f.start else start_of fs i
