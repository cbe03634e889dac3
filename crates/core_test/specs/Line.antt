-- The line in a desk's octets (docs/FORMS.md; document 01, "The desk"): who waits, and whether a place has another seat than one.
-- Assumes nothing.
use Rattle.octets.specs.Octets.{nth_octet}
use Rattle.desk_octets.specs.Places.{waiting_column}
use Rattle.std.specs.Prelude.{ℕ, ◌+◌, Bool, not, List, eqb}
use Rattle.line.specs.declared.Entry.{Entry}
use Rattle.line.specs.Line.{waiting}
use Rattle.desk_octets.specs.Form.{core_at}

abbrev pub line_in : List ℕ → List Entry
line_in s = waiting (core_at s).line

abbrev pub is_another : List ℕ → ℕ → ℕ → Bool
is_another s seat i = not (eqb (nth_octet s (waiting_column + i)) seat)
