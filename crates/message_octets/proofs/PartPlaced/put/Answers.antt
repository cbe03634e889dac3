-- Where a part starts, and behind it how many octets it has. Assumes nothing.
use Prim.Native.Nat.{◌%◌}
use native.Mathlib.Omega.{arith}
use Rattle.octets.proofs.Numbers.{length16}
use Rattle.octets.proofs.Over.{run}
use Rattle.message_octets.specs.Held.{part_in_four}
use Rattle.message_octets.proofs.PartPlaced.put.Goals as goal

pub returns : goal.returns
unfolding part_in_four
returns c =
    let a = c.args in
    run a.room.now _ _ a.at 2 _ _ (omega (arith, c.requires)) (length16 (a.self.from % 65536)) c.put16.ensures c.put16-2.ensures
