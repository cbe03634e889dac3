-- `saving::extent_of` meets its contract. Assumes nothing.
use Rattle.std.proofs.Common.{◌+◌, ◌*◌, ◌≤◌, ◌≡◌, length}
use Rattle.saving.proofs.Walks.{rest}
use Rattle.sheet.specs.Layout.{seats_octets, seats_of}
use Rattle.saving.proofs.extent_of.Given as goal

abbrev pub invariant-loop-seat : goal.invariant-loop-seat
invariant-loop-seat l =
    record {
      far : l.octets ≤ 69 * l.seat;
      few : l.count ≤ l.seat;
      octets : l.octets + length (seats_octets (rest l.hall l.names l.seat)) ≡ length (seats_octets (seats_of l.hall l.names));
      count : l.count + length (rest l.hall l.names l.seat) ≡ length (seats_of l.hall l.names);
    }
