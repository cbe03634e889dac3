-- `copying::put_ends` keeps its promise, `room.new ≡ over room.old at (part s.now from count)`. Copies two blocks of N octets, one where
-- the part starts and one where it ends. Assumes nothing.
use Rattle.std.proofs.Common.{◌-◌}
use native.Mathlib.Omega.{arith}
use Rattle.copying.proofs.Behind.{behind}
use Rattle.copying.proofs.put_ends.Goals as goal

pub returns : goal.returns
returns g c =
    let a = c.args in
    let n = g.row.N in
    behind a.room.now a.s.now a.at a.from n (a.count - n) n (omega arith) (omega arith) (omega arith) (omega arith) (omega arith)
    c.requires.count_in_bounds
    c.requires.count_in_bounds_2
    c.put_block.ensures c.put_block-2.ensures
