-- An octet is laid by one store. Assumes nothing.
use Rattle.octets.proofs.Over.{over-one}
use native.Mathlib.Omega.{arith}
use Rattle.field_writing.proofs.U8Content.put.Goals as goal

pub returns : goal.returns
returns c = over-one c.args.room.now c.args.at c.args.self (omega (arith, c.requires.fits))
