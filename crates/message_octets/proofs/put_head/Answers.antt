-- `message_octets::put_head` keeps its promise, `room.new ≡ over room.old 0 (head_by kind s.now fields)`. Assumes nothing.
use Prim.Native.Nat.{◌+◌, zero-le}
use mathlib.Core.List.{[], ◌∷◌}
use mathlib.Core.Path.{◌≡◌, refl}
use Rattle.octets.specs.Octets.{be32, over, octets16, octets32}
use Rattle.message.specs.Types.{type_number}
use Rattle.header.specs.Header.{ack_bit}
use Rattle.message_octets.specs.Laying.{head_by}
use Rattle.octets.proofs.Over.{run}
use Rattle.message_octets.proofs.put_head.Goals as goal

pub returns : goal.returns
unfolding head_by octets16 octets32
returns c =
    let a =
    c.args in
    let r = a.room.now in
    let e1 : c.put_pair.new.room
    ≡ over r 0 (type_number a.kind ∷ ack_bit a.s.now ∷ []) =
    rw (← c.type_number.ensures) c.put_pair.ensures in
    let e3 : c.put32.new.room
    ≡ over c.put16.new.room (0 + 4) (octets32 (be32 a.s.now 4)) =
    rw (← c.number32.ensures) c.put32.ensures in
    run r _ _ 0 4 _ _ zero-le refl
    (run r _ _ 0 2 _ _ zero-le refl e1 c.put16.ensures) e3
