-- `seat_saving::put_seat` meets its contract: the octets before the identity, and then the identity. Assumes nothing.
use Rattle.std.proofs.Common.{◌≡◌, ◌≤◌, ◌+◌, [], ◌∷◌, ◌++◌, length, set, refl, ap, ◌∙◌, arith}
use Rattle.octets.specs.Octets.{octets16, octets32, over, part}
use Rattle.octets.proofs.Over.{over-one, over_more, run}
use Rattle.seat_saving.proofs.Seat.{seat_made}
use Rattle.seat_saving.proofs.put_seat.Goals as goal

pub returns-clause-room_after : goal.returns-clause-room_after
unfolding octets32 octets16
returns-clause-room_after c =
    let a = c.args in
    let room = a.room.now in
    let fl = c.flags_octet.result in
    let n = c.name_length-n.result in
    let h : a.at ≤ length room = omega (arith, c.requires) in
    let head : set c.put32.new.room (a.at + 6) n ≡ over room a.at ((fl ∷ a.who.highest ∷ []) ++ octets32 a.who.ssrc ++ (n ∷ [])) =
    grind (arith, over-one, over_more) in
    run room _ _ a.at 7 _ (part a.name.octets 0 n) h refl head c.put_part.ensures
    ∙ ap (over room a.at) (seat_made a.who a.name fl n c.flags_octet.ensures c.name_length-n.ensures.0)
