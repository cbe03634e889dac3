-- The first piece begins with the octets.
use Rattle.std.proofs.Common.{refl}
use borrow.Author.Count.{below_none}
use Rattle.printing.specs.Printed.{piece_start}
use Rattle.printing.proofs.pieces.Goals as goal

pub invariant_of-result : goal.invariant_of-result
unfolding piece_start
invariant_of-result c = record { place = refl; begin = below_none _ }
