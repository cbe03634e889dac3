-- An octet is laid by one store. Assumes nothing.
use native.Mathlib.Omega.{arith}
use Rattle.octets.proofs.Over.{over-one}
use Rattle.message_octets.proofs.U8Placed.put.Goals as goal

pub returns : goal.returns
returns c = over-one c.args.room.now c.args.at c.args.self (omega (arith, c.requires))
