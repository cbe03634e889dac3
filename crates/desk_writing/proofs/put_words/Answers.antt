-- `desk_writing::put_words` keeps its promise, `room.new ≡ over room.old at (word_column words)`. Assumes nothing.
use Rattle.std.proofs.Common.{refl, sym, rules, arith, get_or}
use Rattle.octets.specs.Octets.{octets16, octets32}
use Rattle.octets.proofs.Over.{over_none}
use Rattle.desk_octets.specs.Columns.{rows}
use Rattle.desk_octets.specs.Form.{word_column}
use Rattle.desk_octets.proofs.Turns.{rows_turn}
use Rattle.desk_writing.proofs.put_words.Goals as goal

pub loop-i-init : goal.loop-i-init
unfolding rows
loop-i-init c = (refl, sym (over_none c.args.room.now c.args.at))

pub loop-i-preserved : goal.loop-i-preserved
unfolding octets32 octets16
loop-i-preserved c =
    let a = c.args in
    let l = c.loop-i in (
      omega arith,
      rows_turn (λ k. octets32 (get_or a.words k 0)) 4 a.room.now l.room _ a.at l.i _ _ (λ k. refl) (omega (arith, c.requires))
          l.invariant.1 refl
          refl c.put32.ensures,
    )

pub returns : goal.returns
unfolding word_column
returns c = search rules
