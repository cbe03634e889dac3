-- `core_writing::put_column` meets its contract. The invariant says what is written of the places passed. Assumes nothing.
use Rattle.std.proofs.Common.{◌≡◌, ℕ, ◌<◌, length}
use Rattle.octets.specs.Octets.{over}
use Rattle.desk_octets.specs.Columns.{column}
use Rattle.core_writing.proofs.put_column.Given as goal

abbrev pub invariant-loop-i : goal.invariant-loop-i
invariant-loop-i g l =
    (length l.room ≡ length l.initial.room)
    × ((f : ℕ → ℕ) → ((i x : ℕ) → i < l.i → goal.F-post g l.given i x → x ≡ f i) → l.room ≡ over l.initial.room l.at (column f 0 l.i))
