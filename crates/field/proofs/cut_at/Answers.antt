-- `field::cut_at` keeps its promise, `result ≡ step_at s.now at`. A padded field has at least four octets, so one of which fewer are left
-- runs past the end. Assumes nothing.
use Prim.Native.Nat.{◌<◌}
use mathlib.Core.Path.{sym}
use lib.ListN.{length}
use Rattle.field.specs.Fields.{length_at}
use Rattle.message.proofs.Paddings.{padded_least}
use Rattle.field.proofs.Steps.{step_end, step_high, step_past}
use native.Mathlib.Omega.{arith}
use Rattle.field.proofs.cut_at.Goals as goal

pub returns-then-s-at : goal.returns-then-s-at
returns-then-s-at c = sym (step_end c.args.s.now c.args.at c.if-s-at.true)

pub returns-then-id-ge-HIGH : goal.returns-then-id-ge-HIGH
returns-then-id-ge-HIGH c =
    let a = c.args in
    sym (step_high a.s.now a.at c.if-s-at.false c.if-id-ge-HIGH.true)

pub returns : goal.returns
returns c =
    let a = c.args in
    let h : a.at < length a.s.now = c.if-s-at.false in
    sym (step_past a.s.now a.at h c.if-id-ge-HIGH.false (omega (arith, c.requires, padded_least (length_at a.s.now a.at))))
