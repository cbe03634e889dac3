-- `message_writing::Held::is_readable` keeps its promise: whether 40 octets hold a message that a reader would accept. Assumes nothing.
use mathlib.Core.Path.{sym, ap, ◌∙◌}
use Rattle.readable.proofs.Chains.{and_yes, and_no}
use Rattle.message_octets.specs.Held.{unlisted_field}
use Rattle.message_writing.specs.Writes.{readable_in}
use Rattle.message_writing.proofs.Laws.{readable_is, nothing_ack, nothing_unlisted}
use Rattle.message_writing.proofs.Held.is_readable.Goals as goal

pub returns-then-self-gt1 : goal.returns-then-self-gt1
returns-then-self-gt1 c =
    let v = c.args.self.now in sym (ap (λ h. readable_in h c.args.src.now) (nothing_ack v.octets.now v.whole c.if-self-gt1.true))

pub returns-then-has_unlisted : goal.returns-then-has_unlisted
returns-then-has_unlisted c =
    let v = c.args.self.now in
    let u = ap unlisted_field (sym v.own) ∙ sym c.has_unlisted.ensures ∙ c.if-has_unlisted.true in
    sym (ap (λ h. readable_in h c.args.src.now) (nothing_unlisted v.octets.now v.whole c.if-self-gt1.false u))

pub returns-then-has_required : goal.returns-then-has_required
returns-then-has_required c =
    let v = c.args.self.now in
    and_yes c.has_required.ensures c.if-has_required.true c.all_fit.ensures
    ∙ readable_is v.octets.now c.args.src.now v.own v.whole c.if-self-gt1.false
    (sym c.has_unlisted.ensures ∙ c.if-has_unlisted.false)

pub returns-else-has_required : goal.returns-else-has_required
returns-else-has_required c =
    let v = c.args.self.now in
    and_no _ c.has_required.ensures c.if-has_required.false
    ∙ readable_is v.octets.now c.args.src.now v.own v.whole c.if-self-gt1.false
    (sym c.has_unlisted.ensures ∙ c.if-has_unlisted.false)
