-- Before each turn the reader rests on the packet, and the array holds what was noted up to its place (`Walking`). The measure is how far
-- the packet's end is.
use Rattle.std.proofs.Common.{◌≡◌, ◌-◌, length}
use Rattle.walk.proofs.Walks.{Walking}
use Rattle.walk.proofs.all_starts.Given as goal

abbrev pub invariant-loop-r : goal.invariant-loop-r
invariant-loop-r l = record { rests : l.r.packet.now ≡ l.s; walking : Walking l.s l.starts l.r.at }

abbrev pub decreases-loop-r : goal.decreases-loop-r
decreases-loop-r l = length l.s - l.r.at
