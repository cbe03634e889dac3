-- `field::judged_at` keeps its promise, `result ≡ step_at s.now at`. Judges a field of which four octets are there. Assumes nothing.
use mathlib.Core.Path.{sym, ap, ◌∙◌}
use Rattle.message.specs.Table.{against}
use Rattle.field.specs.Fields.{id_at, length_at}
use Rattle.field.proofs.Steps.{step_high, step_past, step-skipped, step-against, step_field}
use native.Mathlib.Omega.{arith}
use Rattle.field.proofs.judged_at.Goals as goal

pub returns-then-id-ge-HIGH : goal.returns-then-id-ge-HIGH
returns-then-id-ge-HIGH c = sym (step_high c.args.s.now c.args.at (omega arith) c.if-id-ge-HIGH.true)

pub returns-then-s-next : goal.returns-then-s-next
returns-then-s-next c =
    sym
    (step_past c.args.s.now c.args.at (omega arith) c.if-id-ge-HIGH.false
    (rw c.after-next.ensures at c.if-s-next.true))

pub against-requires : goal.against-requires
against-requires c = sym c.is_listed.ensures ∙ c.if-is_listed.true

pub returns-then-against : goal.returns-then-against
returns-then-against c =
    let a = c.args in
    let s = a.s.now in
    let at = a.at in
    sym
    (step-against s at (omega arith) c.if-id-ge-HIGH.false (rw c.after-next.ensures at c.if-s-next.false)
    (sym c.is_listed.ensures ∙ c.if-is_listed.true)
    (sym (c.against.ensures ∙ ap (against (id_at s at) (length_at s at)) c.number16.ensures) ∙ c.if-against.true))

pub returns-then-is_listed : goal.returns-then-is_listed
returns-then-is_listed c =
    let a = c.args in
    let s = a.s.now in
    let at = a.at in
    rw c.after-next.ensures
    (sym
    (step_field s at (omega arith) c.if-id-ge-HIGH.false (rw c.after-next.ensures at c.if-s-next.false)
    (sym c.is_listed.ensures ∙ c.if-is_listed.true)
    (sym (c.against.ensures ∙ ap (against (id_at s at) (length_at s at)) c.number16.ensures) ∙ c.if-against.false)))

pub returns : goal.returns
returns c =
    let a = c.args in
    rw c.after-next.ensures
    (sym
    (step-skipped a.s.now a.at (omega arith) c.if-id-ge-HIGH.false (rw c.after-next.ensures at c.if-s-next.false)
    (sym c.is_listed.ensures ∙ c.if-is_listed.false)))
