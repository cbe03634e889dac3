-- It stands behind the rows that were passed over.
use Rattle.std.proofs.Common.{◌≡◌, ◌+◌, ◌≤◌, length, take}
use Rattle.lab_sheet.specs.Rows.{rows_width}
use Rattle.lab_sheet.proofs.dump_rows.Given as goal

abbrev pub invariant-loop-row : goal.invariant-loop-row
invariant-loop-row l =
    (l.dump.sheet ≡ l.initial.dump.sheet)
    × (l.initial.dump.at + rows_width l.rows ≤ length l.initial.dump.sheet.now
    → l.dump.at ≡ l.initial.dump.at + rows_width (take l.row-index l.rows))
