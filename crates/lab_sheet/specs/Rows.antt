-- How many octets of a sheet stand in its rows. Assumes nothing.
use Rattle.std.specs.Prelude.{ℕ, List}
use Rattle.std.specs.List.{sum_by}
use Rattle.lab_sheet.specs.declared.Row.{Row}
use Rattle.lab_sheet.specs.declared.Row.TheVariants.{Octet, Octets}

-- in one
abbrev pub row_width : Row → ℕ
row_width (Octet name) = 1
row_width (Octets name count) = count

-- in several
abbrev pub rows_width : List Row → ℕ
rows_width rows = sum_by row_width rows
