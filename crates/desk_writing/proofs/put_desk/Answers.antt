-- `desk_writing::put_desk` keeps its promise, `room.new ≡ over room.old 0 (octets_of_desk core hall names)`. Writes a whole
-- desk into the first 1,200 octets of a room. Assumes nothing.
use Rattle.desk_octets.specs.Places.{phase_place, taken_column, lengths_column}
use Rattle.octets.proofs.Over.{run}
use Rattle.desk_octets.proofs.Lengths.{length_core, length_head}
use Rattle.desk_octets.specs.Form.{desk_letters, core_octets, hall_octets, names_octets, octets_of_desk}
use Prim.Native.Nat.{zero-le}
use mathlib.Core.List.{◌++◌}
use mathlib.Core.Path.{refl}
use Rattle.desk_writing.proofs.put_desk.Goals as goal

pub returns : goal.returns
unfolding octets_of_desk
returns c =
    let a =
    c.args in
    let r = a.room.now in
    run r _ _ 0 lengths_column (desk_letters ++ core_octets a.core ++ hall_octets a.hall) (names_octets a.names) zero-le
    (length_head a.core a.hall)
    (run r _ _ 0 taken_column (desk_letters ++ core_octets a.core) (hall_octets a.hall) zero-le (rw (length_core a.core))
    (run r _ _ 0 phase_place desk_letters (core_octets a.core) zero-le refl
    c.put_letters.ensures c.put_core.ensures)
    c.put_hall.ensures) c.put_names.ensures
