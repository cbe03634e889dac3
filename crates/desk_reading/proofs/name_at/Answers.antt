-- `desk_reading::name_at` keeps its promise, `result.now ≡ octets_of (name_at (names_at s.now) seat)`. The identity of a seat, as the
-- part of the octets that holds it. Assumes nothing.
use Rattle.desk_octets.proofs.Pieces.{identity_is, no_identity}
use native.Mathlib.Omega.{arith}
use Rattle.desk_reading.proofs.name_at.Goals as goal

pub returns-then-at-lt16 : goal.returns-then-at-lt16
returns-then-at-lt16 c =
    let a = c.args in
    identity_is a.s.now a.seat c.wide-at.result c.wide-len.result
    c.min.result c.wide-at.ensures c.wide-len.ensures
    c.min.ensures c.if-at-lt16.true
    c.requires

pub returns-else-at-lt16 : goal.returns-else-at-lt16
returns-else-at-lt16 c = no_identity c.args.s.now c.args.seat (omega arith)
