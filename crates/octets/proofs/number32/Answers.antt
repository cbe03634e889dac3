-- `octets::number32` keeps its promise, `result ≡ be32 s.now at`. The number in the four octets from `at` on. Assumes nothing.
use Rattle.octets.specs.Octets.{be32}
use borrow.Author.Rules.{rules}
use Rattle.octets.proofs.number32.Goals as goal

pub returns : goal.returns
unfolding be32
returns c = search rules
