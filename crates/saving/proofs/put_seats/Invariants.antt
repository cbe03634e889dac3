-- `saving::put_seats` meets its contract. Assumes nothing.
use Rattle.std.proofs.Common.{◌≡◌, length}
use Rattle.saving.proofs.Walks.{Put}
use Rattle.saving.proofs.put_seats.Given as goal

abbrev pub invariant-loop-seat : goal.invariant-loop-seat
invariant-loop-seat l =
    record { long : length l.room ≡ length l.initial.room; put : Put l.hall l.names l.initial.room l.room l.at l.seat }
