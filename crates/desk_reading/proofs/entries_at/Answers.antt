-- `desk_reading::entries_at` meets its contract. Assumes nothing.
use Rattle.std.proofs.Common.{rules}
use Rattle.line.specs.Line.{empty}
use Rattle.desk_octets.specs.Form.{entries_at, entry_at}
use Rattle.desk_reading.proofs.Made.{made_from_0}
use Rattle.desk_reading.proofs.entries_at.Goals as goal

pub returns : goal.returns
unfolding entries_at
returns c = made_from_0 _ _ (entry_at c.args.s.now) 15 (λ i x q b k. (search rules, search rules)) empty _ c.from_fn.ensures.items
