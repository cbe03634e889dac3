-- `desk_reading::words_at` meets its contract. Assumes nothing.
use Rattle.std.proofs.Common.{rules, ◌+◌}
use Rattle.std.proofs.Common.{◌*◌}
use Rattle.octets.specs.Octets.{be32}
use Rattle.desk_octets.specs.Form.{words_at}
use Rattle.desk_reading.proofs.Made.{made_from_0}
use Rattle.desk_reading.proofs.words_at.Goals as goal

pub returns : goal.returns
unfolding words_at
returns c =
    made_from_0 _ _ (λ i. be32 c.args.s.now (c.args.at + 4 * i)) 16 (λ i x q b k. (search rules, search rules)) 0 _ c.from_fn.ensures.items
