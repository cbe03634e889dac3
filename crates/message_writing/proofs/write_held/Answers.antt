-- `message_writing::write_held` keeps its promise, `WritesOf (held_at held.now) source.now room.old result room.new`. Writes the message
-- that octets hold as a packet, its identities and its phrase out of the lent source. Assumes nothing.
use Rattle.header.specs.Header.{headed, first_octet}
use Rattle.message_octets.specs.Held.{message_with, held_at}
use Rattle.message_writing.specs.Writes.{message_in}
use Prim.Native.Nat.{ℕ}
use mathlib.Core.Path.{◌≡◌, refl, sym, ap, ◌∙◌}
use Rattle.octets.specs.Octets.{over}
use Rattle.readable.proofs.Fits.{held_by}
use Rattle.writing.proofs.Whole.{refused_13, size_whole, front_fits, rest-fits, laid_whole}
use Rattle.message_writing.proofs.Laws.{holds, first_is, type_small, nothing_length, refused_in}
use native.Mathlib.Omega.{arith}
use Rattle.message_writing.proofs.write_held.Goals as goal

pub returns-then-held-ne-MESSAGE_SIZE : goal.returns-then-held-ne-MESSAGE_SIZE
returns-then-held-ne-MESSAGE_SIZE c = rw (nothing_length c.args.held.now c.if-held-ne-MESSAGE_SIZE.true) (refl, refl)

pub number16-fields-requires : goal.number16-fields-requires
number16-fields-requires c = omega (arith, c.if-held-ne-MESSAGE_SIZE.false)

pub size-size-requires : goal.size-size-requires
size-size-requires c =
    let facts =
    holds c.args.held.now c.args.source.now c.number16-fields.ensures c.if-held-ne-MESSAGE_SIZE.false
    (sym c.is_readable.ensures ∙ c.if-not-is_readable.false) in
    (held_by (message_in c.args.held.now c.number16-fields.result) c.args.source.now facts.accepted).short

pub returns-then-room-size : goal.returns-then-room-size
returns-then-room-size c =
    let facts =
    holds c.args.held.now c.args.source.now c.number16-fields.ensures c.if-held-ne-MESSAGE_SIZE.false
    (sym c.is_readable.ensures ∙ c.if-not-is_readable.false) in
    rw facts.is
    (refused_13 (message_in c.args.held.now
    c.number16-fields.result)
    c.args.source.now
    c.args.room.now facts.accepted
    c.size-size.ensures c.if-room-size.true)

pub overflow_mul-first : goal.overflow_mul-first
overflow_mul-first c =
    let facts =
    holds c.args.held.now c.args.source.now c.number16-fields.ensures c.if-held-ne-MESSAGE_SIZE.false
    (sym c.is_readable.ensures ∙ c.if-not-is_readable.false) in
    omega (arith, facts.ack)

pub overflow_add-first : goal.overflow_add-first
overflow_add-first c =
    let facts =
    holds c.args.held.now c.args.source.now c.number16-fields.ensures c.if-held-ne-MESSAGE_SIZE.false
    (sym c.is_readable.ensures ∙ c.if-not-is_readable.false) in
    omega (arith, facts.ack)

pub overflow_add-first-2 : goal.overflow_add-first-2
overflow_add-first-2 c =
    let facts =
    holds c.args.held.now c.args.source.now c.number16-fields.ensures c.if-held-ne-MESSAGE_SIZE.false
    (sym c.is_readable.ensures ∙ c.if-not-is_readable.false) in
    omega (arith, facts.ack, type_small c.args.held.now facts.type)

pub number32-ssrc-requires : goal.number32-ssrc-requires
number32-ssrc-requires c = omega (arith, c.if-held-ne-MESSAGE_SIZE.false)

pub put_header-requires : goal.put_header-requires
put_header-requires c =
    let facts =
    holds c.args.held.now c.args.source.now c.number16-fields.ensures c.if-held-ne-MESSAGE_SIZE.false
    (sym c.is_readable.ensures ∙ c.if-not-is_readable.false) in
    let w =
    size_whole (message_in
    c.args.held.now
    c.number16-fields.result)
    c.args.source.now
    c.args.room.now
    facts.accepted
    c.size-size.ensures in
    record { header_size_le_size = w; header_size_in_bounds = omega (arith, w.0, c.if-room-size.false) }

pub put_front-at-requires : goal.put_front-at-requires
unfolding message_in message_with
put_front-at-requires c =
    let facts =
    holds c.args.held.now c.args.source.now c.number16-fields.ensures c.if-held-ne-MESSAGE_SIZE.false
    (sym c.is_readable.ensures ∙ c.if-not-is_readable.false) in
    let m = message_in c.args.held.now c.number16-fields.result in
    let headed_is : c.put_header.new.room ≡ over c.args.room.now 0 (headed (first_octet m.kind m.ack) m.ssrc c.size-size.result) =
    c.put_header.ensures
    ∙ ap (λ (first : ℕ). over c.args.room.now 0 (headed first c.number32-ssrc.result c.size-size.result))
    (first_is c.args.held.now c.number16-fields.result facts.type facts.ack)
    ∙ ap (λ (ssrc : ℕ). over c.args.room.now 0 (headed (first_octet m.kind m.ack) ssrc c.size-size.result)) c.number32-ssrc.ensures in
    record {
      fields_fit = held_by (message_in c.args.held.now
          c.number16-fields.result)
          c.args.source.now facts.accepted;
      src_in_bounds = front_fits (message_in
          c.args.held.now
          c.number16-fields.result)
          c.args.source.now
          c.args.room.now facts.accepted
          c.size-size.ensures
          c.if-room-size.false headed_is;
    }

pub put_rest-requires : goal.put_rest-requires
unfolding message_in message_with
put_rest-requires c =
    let facts =
    holds c.args.held.now c.args.source.now c.number16-fields.ensures c.if-held-ne-MESSAGE_SIZE.false
    (sym c.is_readable.ensures ∙ c.if-not-is_readable.false) in
    let m = message_in c.args.held.now c.number16-fields.result in
    let headed_is : c.put_header.new.room ≡ over c.args.room.now 0 (headed (first_octet m.kind m.ack) m.ssrc c.size-size.result) =
    c.put_header.ensures
    ∙ ap (λ (first : ℕ). over c.args.room.now 0 (headed first c.number32-ssrc.result c.size-size.result))
    (first_is c.args.held.now c.number16-fields.result facts.type facts.ack)
    ∙ ap (λ (ssrc : ℕ). over c.args.room.now 0 (headed (first_octet m.kind m.ack) ssrc c.size-size.result)) c.number32-ssrc.ensures in
    record {
      fields_fit = held_by (message_in c.args.held.now
          c.number16-fields.result) c.args.source.now
          facts.accepted;
      src_in_bounds = rest-fits
          (message_in c.args.held.now
          c.number16-fields.result) c.args.source.now
          c.args.room.now
          facts.accepted c.size-size.ensures c.if-room-size.false
          headed_is c.put_front-at.ensures;
    }

pub returns : goal.returns
unfolding message_in message_with
returns c =
    let facts =
    holds c.args.held.now c.args.source.now c.number16-fields.ensures c.if-held-ne-MESSAGE_SIZE.false
    (sym c.is_readable.ensures ∙ c.if-not-is_readable.false) in
    let m = message_in c.args.held.now c.number16-fields.result in
    let headed_is : c.put_header.new.room ≡ over c.args.room.now 0 (headed (first_octet m.kind m.ack) m.ssrc c.size-size.result) =
    c.put_header.ensures
    ∙ ap (λ (first : ℕ). over c.args.room.now 0 (headed first c.number32-ssrc.result c.size-size.result))
    (first_is c.args.held.now c.number16-fields.result facts.type facts.ack)
    ∙ ap (λ (ssrc : ℕ). over c.args.room.now 0 (headed (first_octet m.kind m.ack) ssrc c.size-size.result)) c.number32-ssrc.ensures in
    rw facts.is
    (laid_whole (message_in
    c.args.held.now
    c.number16-fields.result)
    c.args.source.now
    c.args.room.now
    facts.accepted
    c.size-size.ensures c.if-room-size.false headed_is
    c.put_front-at.ensures c.put_rest.ensures)

pub returns-then-not-is_readable : goal.returns-then-not-is_readable
returns-then-not-is_readable c =
    refused_in (held_at c.args.held.now)
    c.args.source.now
    c.args.room.now (sym c.is_readable.ensures ∙ c.if-not-is_readable.true)
