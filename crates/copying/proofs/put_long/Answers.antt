-- `copying::put_long` keeps its promise, `room.new ≡ over room.old at (part s.now from count)`. Copies blocks of 64 octets. Assumes
-- nothing.
use Rattle.std.proofs.Common.{◌+◌, ◌-◌, ◌≤◌, length}
use mathlib.Core.Path.{sym}
use Rattle.octets.specs.Octets.{part}
use Rattle.octets.proofs.Over.{over_none}
use native.Mathlib.Omega.{arith}
use Rattle.copying.proofs.Behind.{behind}
use Rattle.copying.proofs.put_long.Goals as goal

pub loop-i-init : goal.loop-i-init
unfolding part
loop-i-init c = (omega arith, sym (over_none c.args.room.now c.args.at))

pub loop-i-preserved : goal.loop-i-preserved
loop-i-preserved c =
    let a = c.args in
    let l = c.loop-i in
    let p : a.at + a.count ≤ length a.room.now = c.requires.count_in_bounds in
    let q : a.from + a.count ≤ length a.s.now = c.requires.count_in_bounds_2 in (
      omega arith,
      behind a.room.now a.s.now a.at a.from l.i l.i 64 (omega arith) (omega arith) (omega arith) (omega arith) (omega arith)
          (omega arith) (omega arith) l.invariant.1 c.put_block.ensures,
    )

pub returns : goal.returns
returns c =
    let a = c.args in
    let l = c.loop-i in
    behind a.room.now a.s.now a.at a.from l.i (a.count - 64) 64 (omega arith) (omega arith) (omega arith) (omega arith) (omega arith)
    c.requires.count_in_bounds
    c.requires.count_in_bounds_2
    l.invariant.1 c.put_block-2.ensures
