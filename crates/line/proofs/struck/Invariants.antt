-- `line::struck` meets its contract. The invariant says what is kept of those seen so far. Assumes nothing.
use Prim.Native.Nat.{◌≤◌}
use mathlib.Core.Path.{◌≡◌}
use lib.ListN.{length, take}
use Rattle.line.specs.Line.{waiting, without}
use Rattle.line.proofs.Laws.{padded}
use Rattle.line.proofs.struck.Given as goal

abbrev pub invariant-loop-e : goal.invariant-loop-e
invariant-loop-e l = record {
  number : l.len ≡ length (without l.seats (take l.e-index (waiting l.fn.line)));
  within : l.len ≤ l.e-index;
  kept : l.entries ≡ padded (without l.seats (take l.e-index (waiting l.fn.line)));
}
