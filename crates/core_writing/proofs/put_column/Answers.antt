-- `core_writing::put_column` meets its contract. Assumes nothing.
use Rattle.std.proofs.Common.{refl, sym, arith, length-set}
use Rattle.octets.proofs.Over.{over_none}
use Rattle.desk_octets.specs.Columns.{column}
use Rattle.desk_octets.proofs.Turns.{column_turn}
use Rattle.core_writing.proofs.put_column.Goals as goal

pub loop-i-init : goal.loop-i-init
unfolding column
loop-i-init g c = (refl, λ f h. sym (over_none c.args.room.now c.args.at))

pub loop-i-preserved : goal.loop-i-preserved
loop-i-preserved g c =
    let a = c.args in
    let l = c.loop-i in (
      simp length-set l.invariant.0,
      λ f h. column_turn f a.room.now l.room a.at l.i _ (omega (arith, c.requires.in_bounds))
          (l.invariant.1 f (λ i x b p. h i x (omega arith) p))
          (h l.i _ (omega arith) c.given.ensures),
    )
