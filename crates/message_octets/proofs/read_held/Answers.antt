-- `message_octets::read_held` keeps its promise: the reader's refusals, 13, and a message. Assumes nothing.
use mathlib.Core.Path.{◌≡◌, ◌∙◌}
use Rattle.std.proofs.Common.{rules}
use Rattle.message.specs.Answers.{refusal_number}
use Rattle.message_octets.specs.Held.{read_answer}
use Rattle.message_octets.proofs.Answers.{refused_is, short_is, kept_is}
use Rattle.message_octets.proofs.read_held.Goals as goal

pub returns-in_err-kind : goal.returns-in_err-kind
returns-in_err-kind c =
    let e : read_answer c.from_residual.result ≡ refusal_number c.in_err-kind.field-0.0 = search rules in
    let h = refused_is c.args.packet.now c.args.room.now _ c.in_err-kind.ensures.0 in
    record { value = e ∙ h.0; room_after = h.1 }

pub returns-then-room-lt-MESSAGE_SIZE : goal.returns-then-room-lt-MESSAGE_SIZE
returns-then-room-lt-MESSAGE_SIZE c =
    let h = short_is c.args.packet.now c.args.room.now _ c.in_ok-kind.ensures.0 c.if-room-lt-MESSAGE_SIZE.true in
    record { value = h.0; room_after = h.1 }

pub returns : goal.returns
returns c =
    let h = kept_is c.args.packet.now c.args.room.now _ _ c.in_ok-kind.ensures.0 c.if-room-lt-MESSAGE_SIZE.false c.put_held.ensures in
    record { value = h.0; room_after = h.1 }
