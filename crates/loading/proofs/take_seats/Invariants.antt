-- `loading::take_seats` meets its contract. Assumes nothing.
use Rattle.std.proofs.Common.{◌≡◌, ◌-◌, Some}
use Rattle.loading.proofs.Loads.{rest}
use Rattle.loading.proofs.take_seats.Given as goal

abbrev pub invariant-loop-seat : goal.invariant-loop-seat
invariant-loop-seat l = rest l.s l.count (Some l.initial.turn) ≡ rest l.s (l.count - l._seat) (Some l.turn)
