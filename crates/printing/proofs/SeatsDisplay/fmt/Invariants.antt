-- The seats that were passed over are written, those of the set.
use Rattle.std.specs.Fmt.{HasWritten, IsPlainFormatter}
use Rattle.printing.specs.Printed.{seats_before}
use Rattle.printing.proofs.SeatsDisplay.fmt.Given as goal

abbrev pub invariant-loop-seat : goal.invariant-loop-seat
invariant-loop-seat g l =
    IsPlainFormatter l.initial.f → HasWritten g.W.Write.write_str_gives l.initial.f (seats_before l.self.0 l.seat-counter) l.f
