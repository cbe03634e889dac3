-- `octets::put16` keeps its promise, `room.new ≡ over room.old at (octets16 n)`. Writes a number as two octets at `at`. Assumes nothing.
use Rattle.octets.specs.Octets.{octets16}
use borrow.Author.Rules.{rules}
use Rattle.octets.proofs.put16.Goals as goal

pub returns : goal.returns
unfolding octets16
returns c = search rules
