-- `identities::name_of` meets its contract. Assumes nothing.
use Rattle.identities.specs.Identity.{name_of}
use Rattle.identities.proofs.Naming.{kept_front}
use Rattle.identities.proofs.name_of.Goals as goal

pub returns : goal.returns
unfolding name_of
returns c = rw (c.copy_from_slice.ensures.after, c.min-kept.ensures) (let h = kept_front 62 c.args.identity.now in cc)
