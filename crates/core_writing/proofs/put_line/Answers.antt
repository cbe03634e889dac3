-- `core_writing::put_line` keeps its promise, `room.new ≡ over room.old count_place (line_octets line)`. Assumes nothing.
use Rattle.desk_octets.specs.Places.{count_place, waiting_column, waiting_zero, priorities_column, priorities_zero}
use Rattle.std.proofs.Common.{rules}
use Rattle.desk_octets.specs.Form.{entry_seat, entry_priority}
use Rattle.desk_octets.proofs.Pieces.{line_whole}
use Rattle.desk_octets.specs.Columns.{column}
use Rattle.desk_octets.proofs.Turns.{next_piece}
use Rattle.octets.specs.Octets.{over}
use lib.ListN.{length}
use Prim.Native.Nat.{◌≤◌}
use mathlib.Core.Path.{refl, ap, ◌∙◌}
use native.Mathlib.Omega.{arith}
use Rattle.core_writing.proofs.put_line.Goals as goal

pub returns : goal.returns
unfolding column
returns c =
    let a =
    c.args in
    let r = a.room.now in
    let h : count_place ≤ length r =
    omega (
      arith,
      c.requires,
    ) in
    next_piece r _ _ count_place priorities_zero _ _
    (next_piece r _ _ count_place priorities_column _ _
    (next_piece r _ _ count_place waiting_zero _ _
    (next_piece r _ _ count_place waiting_column _ _
    c.put_pair.ensures
    (c.put_column.ensures (entry_seat a.line.entries) (λ i x b p. search rules)) refl h) c.put_zeros.ensures refl h)
    (c.put_column-2.ensures (entry_priority a.line.entries) (λ i x b p. search rules)) refl h) c.put_zeros-2.ensures refl h
    ∙ ap (over r count_place)
    (line_whole a.line _
    c.count-count.ensures.0)
