-- `copying::put_long` keeps its promise, `room.new ≡ over room.old at (part s.now from count)`. Copies blocks of 64 octets. Assumes
-- nothing.
use Rattle.std.proofs.Common.{◌≡◌, ◌-◌, ◌≤◌}
use Rattle.octets.specs.Octets.{part, over}
use Rattle.copying.proofs.put_long.Given as goal

abbrev pub invariant-loop-i : goal.invariant-loop-i
invariant-loop-i l = (l.i ≤ l.count) × (l.room ≡ over l.initial.room l.at (part l.s l.from l.i))

abbrev pub decreases-loop-i : goal.decreases-loop-i
decreases-loop-i l = l.count - l.i
