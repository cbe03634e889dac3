-- `line::seats_of` meets its contract. The invariant says which seats are in the set so far, and which are to come. Assumes nothing.
use mathlib.Core.Path.{◌≡◌}
use lib.ListN.{length, drop}
use Rattle.line.specs.Line.{waiting, seat_set, added}
use Rattle.line.proofs.seats_of.Given as goal

abbrev pub invariant-loop-e : goal.invariant-loop-e
invariant-loop-e l = record {
  long : length l.seats ≡ 16;
  so_far : seat_set (waiting l.fn.line) ≡ added l.seats (drop l.e-index (waiting l.fn.line));
}
