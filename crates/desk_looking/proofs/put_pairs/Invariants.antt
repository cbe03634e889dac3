-- `desk_looking::put_pairs` keeps its promise, `room.new ≡ over room.old 0 (pairs (waiting line))`. Writes the line into the room, two
-- octets an entry. Assumes nothing.
use Rattle.desk_looking.specs.Looking.{pair_at}
use Rattle.line.specs.Line.{waiting}
use Rattle.desk_octets.specs.Columns.{rows}
use Rattle.octets.specs.Octets.{over}
use lib.ListN.{length}
use mathlib.Core.Path.{◌≡◌}
use Rattle.desk_looking.proofs.put_pairs.Given as goal

abbrev pub invariant-loop-i : goal.invariant-loop-i
invariant-loop-i l =
    (length l.room ≡ length l.initial.room) × (l.room ≡ over l.initial.room 0 (rows (pair_at (waiting l.line)) 0 l.i))
