-- `identities::name_length` meets its contract. Assumes nothing.
use native.Mathlib.Omega.{arith}
use lib.ListN.{length-take}
use Rattle.identities.specs.Identity.{octets_of}
use Rattle.identities.proofs.name_length.Goals as goal

pub returns : goal.returns
unfolding octets_of
returns c = (simp length-take (omega arith), omega arith)
