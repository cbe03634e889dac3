-- `octets::number16` keeps its promise, `result ≡ be16 s.now at`. The number in the two octets from `at` on. Assumes nothing.
use Rattle.octets.specs.Octets.{be16}
use native.Mathlib.Omega.{arith}
use Rattle.octets.proofs.number16.Goals as goal

pub returns : goal.returns
unfolding be16
returns c = omega arith
