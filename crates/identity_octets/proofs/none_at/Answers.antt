-- `identity_octets::none_at` meets its contract. Assumes nothing.
use Rattle.std.proofs.Common.{ℕ, ◌+◌, Bool, ◌&&◌, leb, ◌∙◌, rules}
use Rattle.octets.specs.Octets.{nth_octet}
use Rattle.desk_octets.specs.Form.{up_to}
use Rattle.identity_octets.proofs.Parts.{quarters}
use Rattle.identity_octets.proofs.none_at.Goals as goal

pub returns : goal.returns
unfolding up_to
returns c =
    let zero : ℕ → Bool = λ i. leb (nth_octet c.args.s.now (c.args.at + i)) 0 in
    c.all_below.ensures (λ i. zero i && zero (10 + i) && zero (20 + i) && zero (30 + i)) (λ i b h p. search rules) ∙ quarters zero
