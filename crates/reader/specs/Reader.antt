-- How a reader on a packet moves on (document 01, "The packet"). What it hands out at a place is `step_at`, of field/specs/Fields.
-- Assumes nothing.
use Rattle.std.specs.Prelude.{ℕ}
use Rattle.field.specs.declared.FieldStep.{FieldStep}
use Rattle.field.specs.declared.FieldStep.TheVariants.{Field, Skipped, End, PastTheEnd, AgainstTheTable}

-- behind a field, of the table or skipped; at the end and at a fault the place stays
abbrev pub behind : FieldStep → ℕ → ℕ
behind (Field f) at = f.next
behind (Skipped f) at = f.next
behind End at = at
behind PastTheEnd at = at
behind (AgainstTheTable i) at = at
