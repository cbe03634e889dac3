-- `seat_looking::show_seat` keeps its promise, `(result, room.new) ≡ taken_shown hall names seat room.old`. Assumes nothing.
use Rattle.std.proofs.Common.{rules, length, refl, ap, ◌≡◌, sym, ◌∙◌}
use Rattle.octets.specs.Octets.{over}
use Rattle.seat_saving.specs.Seat.{octets_at_seat}
use Rattle.sheet.specs.Layout.{seat_at, octets_of_seat}
use Rattle.seat_saving.proofs.Seat.{taken}
use Rattle.signed.proofs.Signed.{passed, numbered, pair_same}
use Rattle.words.specs.Choice.{if_yes, if_no}
use Rattle.seat_looking.proofs.Shows.{shown_so}
use Rattle.seat_looking.proofs.show_seat.Goals as goal

pub returns-in_default : goal.returns-in_default
returns-in_default c =
    pair_same (passed c.refused.type_inv ∙ numbered c.refused.ensures) refl ∙ sym (if_no _ _ _ c.in_default.ensures)

pub returns : goal.returns
returns c =
    let a = c.args in
    let s = c.in-Some.seat in
    let e = c.in-Some.ensures in
    let t = ap (octets_at_seat a.hall a.names) e.0 ∙ taken a.hall a.names a.seat e.2 in
    pair_same (passed c.shown.type_inv) refl
    ∙ shown_so (octets_of_seat (seat_at a.hall a.names a.seat)) a.room.now _ _ _ (c.octets_at-n.ensures.0 ∙ ap length t)
    (λ l. let w = c.shown.ensures.written l in
    let z : c.shown.new.room ≡ over a.room.now 0 (octets_at_seat a.hall a.names s) = search rules in
    (w.0, z ∙ ap (over a.room.now 0) t)) c.shown.ensures.no_room
    ∙ sym (if_yes _ _ _ e.2)
