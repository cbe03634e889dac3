-- `desk_writing::put_identities` keeps its promise, `room.new ≡ over room.old identities_column (rows (λ s. name_octets
-- (name_at names s)) 0 16)`. Assumes nothing.
use Rattle.std.proofs.Common.{◌≡◌, length}
use Rattle.octets.specs.Octets.{over}
use Rattle.identities.specs.Identity.{name_at}
use Rattle.desk_octets.specs.Columns.{rows}
use Rattle.desk_octets.specs.Form.{name_octets}
use Rattle.desk_octets.specs.Places.{identities_column}
use Rattle.desk_writing.proofs.put_identities.Given as goal

abbrev pub invariant-loop-seat : goal.invariant-loop-seat
invariant-loop-seat l =
    (length l.room ≡ length l.initial.room)
    × (l.room ≡ over l.initial.room identities_column (rows (λ k. name_octets (name_at l.names k)) 0 l.seat))
