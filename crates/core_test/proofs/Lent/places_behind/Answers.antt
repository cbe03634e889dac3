-- `core_test::Lent::places_behind` meets its contract. Assumes nothing.
use Rattle.std.proofs.Common.{◌∙◌, rules}
use Rattle.core_test.proofs.InOctets.{clear, behind_in}
use Rattle.core_test.proofs.Lent.places_behind.Goals as goal

pub returns : goal.returns
returns c =
    let v = c.args.self.now in
    c.all_below.ensures (clear v) (λ i b h p. search rules) ∙ behind_in v
