-- `octets::put_pair` keeps its promise, `room.new ≡ over room.old at (first ∷ second ∷ [])`. Writes two octets at `at`. Assumes nothing.
use native.Mathlib.Numerals.{add-one}
use mathlib.Core.List.{[], ◌∷◌}
use lib.ListN.{length-set}
use lib.Seq.{sets-eq}
use Rattle.octets.specs.Octets.{over}
use native.Mathlib.Omega.{arith}
use Rattle.octets.proofs.put_pair.Goals as goal

pub bounds-room-at-2 : goal.bounds-room-at-2
bounds-room-at-2 c = simp length-set (omega arith)

pub shape_of-room : goal.shape_of-room
shape_of-room c = simp length-set

pub returns : goal.returns
unfolding over
returns c =
    let a = c.args in
    rw add-one (sets-eq (a.first ∷ a.second ∷ []) a.room.now a.at c.requires)
