-- `identity_octets::same_octets` meets its contract. Assumes nothing.
use Rattle.std.proofs.Common.{ℕ, ◌+◌, Bool, ◌&&◌, ◌∙◌, rules}
use Rattle.identity_octets.specs.Identity.{agree, same_octets}
use Rattle.identity_octets.proofs.Parts.{halves}
use Rattle.identity_octets.proofs.same_octets.Goals as goal

pub returns : goal.returns
unfolding same_octets
returns c =
    let same : ℕ → Bool = agree c.args.s.now c.args.a c.args.b in
    c.all_below.ensures (λ i. same i && same (30 + i)) (λ i b h p. search rules) ∙ halves same
