-- `copying::put_part` keeps its promise, `room.new ≡ over room.old at (part s.now from count)`. Copies the part of `s` that begins at
-- `from` and has `count` octets into the room at `at`. Assumes nothing.
use mathlib.Core.Path.{sym}
use Rattle.octets.specs.Octets.{part}
use Rattle.octets.proofs.Over.{over_none}
use Rattle.copying.proofs.put_part.Goals as goal

pub returns-in-0 : goal.returns-in-0
unfolding part
returns-in-0 c = rw c.in-0.is (sym (over_none c.args.room.now c.args.at))
