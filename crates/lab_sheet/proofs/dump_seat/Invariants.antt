-- It goes on behind each line, and no further than the identity goes.
use Rattle.std.proofs.Common.{◌+◌, ◌≤◌, length}
use Rattle.lab_sheet.proofs.dump_seat.Given as goal

abbrev pub invariant-loop-letters : goal.invariant-loop-letters
invariant-loop-letters l =
    (l.initial.dump.at ≤ l.dump.at)
    × (l.dump.at + length l.letters-iterator.rest.now ≤ l.initial.dump.at + length l.initial.letters-iterator.rest.now)
