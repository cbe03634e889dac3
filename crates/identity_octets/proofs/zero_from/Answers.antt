-- `identity_octets::zero_from` meets its contract. Assumes nothing.
use Rattle.std.proofs.Common.{ℕ, ◌+◌, ◌-◌, Bool, leb, ◌∙◌, arith, rules}
use Rattle.octets.specs.Octets.{nth_octet}
use Rattle.desk_octets.specs.Form.{up_to}
use Rattle.identity_octets.proofs.Parts.{at-four, in_sixteens}
use Rattle.identity_octets.proofs.zero_from.Goals as goal

pub returns : goal.returns
unfolding up_to
returns c =
    let a = c.args in
    let zero : ℕ → Bool = λ i. leb (nth_octet a.s.now i) 0 in
    let from : ℕ = a.at + a.len in
    let second : ℕ = a.at + c.min.result in
    let third : ℕ = a.at + c.min-2.result in
    c.all_below.ensures (at-four zero from second third (a.at + 46)) (λ i b h p. search rules)
    ∙ in_sixteens zero from second third (a.at + 46) (62 - a.len) (omega arith) (omega arith) (omega arith) (omega arith) (omega arith)
    (omega arith) (omega arith)
