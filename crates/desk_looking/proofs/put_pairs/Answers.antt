-- `desk_looking::put_pairs` keeps its promise, `room.new ≡ over room.old 0 (pairs (waiting line))`. Writes the line into the room, two
-- octets an entry. Assumes nothing.
use native.Mathlib.Nat.{zero-add}
use mathlib.Core.List.{[], ◌∷◌}
use Rattle.desk_looking.specs.Looking.{pair_at, pairs}
use Rattle.line.specs.Line.{waiting}
use Rattle.desk_octets.proofs.Turns.{rows_turn}
use Rattle.desk_octets.specs.Columns.{rows}
use Rattle.octets.proofs.Over.{over_none}
use Rattle.octets.specs.Octets.{over}
use lib.ListN.{length}
use Prim.Native.Nat.{ℕ, ◌*◌, zero-le}
use mathlib.Core.Path.{◌≡◌, refl, sym, ◌∙◌, ap}
use native.Mathlib.Omega.{arith}
use Rattle.desk_looking.proofs.put_pairs.Goals as goal

pub loop-i-init : goal.loop-i-init
unfolding rows
loop-i-init c = (refl, sym (over_none c.args.room.now 0))

pub put_pair-requires : goal.put_pair-requires
put_pair-requires c = omega (arith, c.count-i-end.ensures.0, c.loop-i.invariant.0)

pub loop-i-preserved : goal.loop-i-preserved
loop-i-preserved c =
    let w = waiting c.args.line in
    let e = c.entry_at-e.ensures in (
      omega arith,
      rows_turn (pair_at w) 2 c.args.room.now
          c.loop-i.room _ 0 c.loop-i.i _
          _ (λ k. refl) zero-le c.loop-i.invariant.1 refl (λ k. (e k).seat ∷ (e k).priority ∷ [])
          (rw (zero-add (2 * c.loop-i.i)) c.put_pair.ensures),
    )

pub returns : goal.returns
unfolding pairs
returns c =
    let e : c.loop-i.i ≡ length (waiting c.args.line) =
    omega (arith, c.count-i-end.ensures.0) in
    c.loop-i.invariant.1
    ∙ ap (λ (n : ℕ). over c.args.room.now 0
    (rows (pair_at (waiting c.args.line)) 0 n)) e
