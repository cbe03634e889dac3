-- `desk_reading::seat_flags_at` meets its contract. Assumes nothing.
use Rattle.std.proofs.Common.{rules, ◌+◌}
use Rattle.octets.specs.Octets.{nth_octet}
use Rattle.hall.specs.Seats.{no_flags}
use Rattle.seat_octets.specs.Layout.{flags_of}
use Rattle.desk_octets.specs.Form.{seat_flags_at}
use Rattle.desk_reading.proofs.Made.{made_from_0}
use Rattle.desk_reading.proofs.seat_flags_at.Goals as goal

pub returns : goal.returns
unfolding seat_flags_at
returns c =
    made_from_0 _ _ (λ i. flags_of (nth_octet c.args.s.now (c.args.at + i))) 16 (λ i x q b k. (search rules, search rules)) no_flags _
    c.from_fn.ensures.items
