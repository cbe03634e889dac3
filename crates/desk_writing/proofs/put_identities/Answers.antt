-- `desk_writing::put_identities` keeps its promise, `room.new ≡ over room.old identities_column (rows (λ s. name_octets
-- (name_at names s)) 0 16)`. Assumes nothing.
use Rattle.std.proofs.Common.{refl, sym, ap, arith}
use Rattle.octets.proofs.Over.{over_none}
use Rattle.std.proofs.lemmas.List.{get_or_default}
use Rattle.identities.specs.Identity.{name_at, no_name}
use Rattle.desk_octets.specs.Places.{identities_column}
use Rattle.desk_octets.specs.Columns.{rows}
use Rattle.desk_octets.specs.Form.{name_octets}
use Rattle.desk_octets.proofs.Pieces.{length-name}
use Rattle.desk_octets.proofs.Turns.{rows_turn}
use Rattle.desk_writing.proofs.put_identities.Goals as goal

pub loop-seat-init : goal.loop-seat-init
unfolding rows
loop-seat-init c = (refl, sym (over_none c.args.room.now identities_column))

pub loop-seat-preserved : goal.loop-seat-preserved
loop-seat-preserved c =
    let a = c.args in
    let l = c.loop-seat in (
      omega arith,
      rows_turn (λ k. name_octets (name_at a.names k)) 62 a.room.now l.room _ identities_column l.seat _ _
          (λ k. length-name (name_at a.names k)) (omega (arith, c.requires)) l.invariant.1 refl
          (ap name_octets (get_or_default a.names.«of» l.seat _ no_name (omega arith))) c.put_name.ensures,
    )
