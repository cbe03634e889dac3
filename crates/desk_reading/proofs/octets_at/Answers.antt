-- `desk_reading::octets_at` meets its contract. Assumes nothing.
use Rattle.std.proofs.Common.{rules}
use Rattle.octets.specs.Octets.{nth_octet}
use Rattle.desk_octets.specs.Form.{octets_at}
use Rattle.desk_reading.proofs.Made.{made_column}
use Rattle.desk_reading.proofs.octets_at.Goals as goal

pub returns : goal.returns
unfolding octets_at
returns c = made_column _ _ (nth_octet c.args.s.now) c.args.at 16 (λ i x q b k. (search rules, search rules)) 0 _ c.from_fn.ensures.items
