-- `desk_reading::names_at` meets its contract. Assumes nothing.
use Rattle.std.proofs.Common.{rules}
use Rattle.identities.specs.Identity.{no_name}
use Rattle.desk_octets.specs.Form.{names_at, name_in}
use Rattle.desk_reading.proofs.Made.{made_from_0}
use Rattle.desk_reading.proofs.names_at.Goals as goal

pub returns : goal.returns
unfolding names_at
returns c = rw (made_from_0 _ _ (name_in c.args.s.now) 16 (λ i x q b k. (search rules, search rules)) no_name _ c.from_fn-of.ensures.items)
