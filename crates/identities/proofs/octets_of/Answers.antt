-- `identities::octets_of` meets its contract. Assumes nothing.
use lib.ListN.{length-take}
use Rattle.std.proofs.lemmas.List.{take_min}
use Rattle.identities.specs.Identity.{octets_of}
use Rattle.identities.proofs.octets_of.Goals as goal

pub returns : goal.returns
unfolding octets_of
returns c = rw (c.name_length.ensures.0, length-take) (take_min _ _)
