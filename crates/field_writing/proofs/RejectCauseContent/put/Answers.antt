-- The phrase stands behind the cause. Assumes nothing.
use native.Mathlib.Omega.{arith}
use Rattle.octets.proofs.Numbers.{length16}
use Rattle.octets.proofs.Over.{run}
use Rattle.field_writing.proofs.RejectCauseContent.put.Goals as goal

pub returns : goal.returns
returns c =
    let a = c.args in
    run a.room.now _ _ a.at 2 _ _ (omega (arith, c.requires.fits)) (length16 a.self.cause) c.put16.ensures c.put.ensures
