-- `desk_reading::name_in` meets its contract. Assumes nothing.
use Rattle.std.proofs.Common.{rules, ◌+◌}
use Rattle.std.proofs.Common.{◌*◌}
use Rattle.octets.specs.Octets.{nth_octet}
use Rattle.desk_octets.specs.Places.{identities_column}
use Rattle.desk_octets.specs.Form.{name_in}
use Rattle.desk_reading.proofs.Made.{made_column}
use Rattle.desk_reading.proofs.name_in.Goals as goal

pub returns : goal.returns
unfolding name_in
returns c =
    rw (
      made_column _ _ (nth_octet c.args.s.now) (identities_column + 62 * c.args.seat) 62 (λ i x q b k. (search rules, search rules)) 0 _
          c.from_fn-octets.ensures.items,
      c.wide-len.ensures,
    )
