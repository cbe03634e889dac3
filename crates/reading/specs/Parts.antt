-- "An identity is answered as the part of the lent packet that holds it" (document 01, "The packet"). Assumes nothing.
use Rattle.std.specs.Prelude.{ℕ, ◌+◌, List, [], leb, length, Option, None, Some}
use Rattle.words.specs.Choice.{when◌then◌else◌}
use Rattle.octets.specs.Octets.{part}
use Rattle.message.specs.declared.Part.{Part}

-- the part of the packet that a field's
-- octets are; none where the part does not lie in it
abbrev pub part_in : List ℕ → Option Part → List ℕ
part_in s None = []
part_in s (Some p) = when leb (p.from + p.count) (length s) then part s p.from p.count else []

-- and where in the packet it stands; where there is none, at its start
abbrev pub start_in : List ℕ → Option Part → ℕ
start_in s None = 0
start_in s (Some p) = when leb (p.from + p.count) (length s) then p.from else 0

-- a pointer so many octets further in the same memory
abbrev pub further : ℕ → ℕ × ℕ → ℕ × ℕ
further n place = (place.0, n + place.1)
