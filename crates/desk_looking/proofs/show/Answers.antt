-- `desk_looking::show` keeps its promise, `(result, room.new) ≡ screened (waiting line) room.old`. Assumes nothing.
use Rattle.line.specs.Line.{waiting}
use lib.IntN.{pos}
use lib.ListN.{length}
use Prim.Native.Nat.{◌*◌, ◌≤◌, ◌<◌}
use Rattle.desk_looking.specs.Looking.{screened}
use borrow.Author.Tests.{lt-leb, le-leb}
use Rattle.signed.proofs.Signed.{passed, numbered, pair_same}
use Rattle.words.specs.Choice.{if_yes, if_no}
use mathlib.Core.Path.{refl, sym, ◌∙◌, ap}
use native.Mathlib.Omega.{arith}
use Rattle.desk_looking.proofs.show.Goals as goal

pub returns-then-room-n : goal.returns-then-room-n
unfolding screened
returns-then-room-n c =
    let l : length c.args.room.now
    < 2 * length (waiting c.args.line) =
    omega (arith, c.count-n.ensures.0, c.if-room-n.true) in
    pair_same (passed c.refused.type_inv ∙ numbered c.refused.ensures) refl ∙ sym (if_no _ _ _ (lt-leb _ _ l))

pub put_pairs-requires : goal.put_pairs-requires
put_pairs-requires c = omega (arith, c.count-n.ensures.0, c.if-room-n.false)

pub found-requires : goal.found-requires
found-requires c = omega (arith, c.count-n.ensures.1)

pub returns : goal.returns
unfolding screened
returns c =
    let l : 2 * length (waiting c.args.line)
    ≤ length c.args.room.now =
    omega (
      arith,
      c.count-n.ensures.0,
      c.if-room-n.false,
    ) in
    pair_same (passed c.found.type_inv ∙ c.found.ensures ∙ ap pos c.count-n.ensures.0)
    c.put_pairs.ensures ∙ sym (if_yes _ _ _ (le-leb _ _ l))
