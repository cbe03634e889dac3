-- `message_octets::lay` keeps its promise: where the field is absent its zeros stand already. Assumes nothing.
use native.Mathlib.Omega.{arith}
use Rattle.message_octets.proofs.Laying.{lays_nothing, lays_octets}
use Rattle.message_octets.proofs.lay.Goals as goal

pub returns-in_default-clause-lays : goal.returns-in_default-clause-lays
returns-in_default-clause-lays g c =
    let a = c.args in
    let b = c.requires.blank in
    rw c.in_default.is (lays_nothing a.room.now a.to _ b.0 g.T.Placed.size b.1 g.met.T.Placed.zeros)

pub returns-clause-lays : goal.returns-clause-lays
returns-clause-lays g c =
    let a = c.args in
    let b = c.requires.blank in
    rw c.in-Some.is
    (lays_octets a.room.now a.to _ b.0 _ (omega (arith, b.1, g.met.T.Placed.long c.in-Some.x)) c.put.ensures)
