-- `desk_reading::bools_at` meets its contract. Assumes nothing.
use Rattle.std.proofs.Common.{rules}
use Rattle.std.proofs.Common.{false}
use Rattle.desk_octets.specs.Form.{bools_at, bool_at}
use Rattle.desk_reading.proofs.Made.{made_column}
use Rattle.desk_reading.proofs.bools_at.Goals as goal

pub returns : goal.returns
unfolding bools_at
returns c = made_column _ _ (bool_at c.args.s.now) c.args.at 16 (λ i x q b k. (search rules, search rules)) false _ c.from_fn.ensures.items
