-- `identity_octets::same_start` meets its contract. Assumes nothing.
use Rattle.std.proofs.Common.{rules}
use Rattle.identity_octets.specs.Identity.{agree}
use Rattle.identity_octets.proofs.same_start.Goals as goal

pub returns : goal.returns
returns c = c.all_below.ensures (agree c.args.s.now c.args.a c.args.b) (λ i b h p. search rules)
