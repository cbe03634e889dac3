-- Seven octets of a seat stand before its identity, which has at most 255.
use Rattle.std.proofs.Common.{◌∙◌, ap, length, arith}
use Rattle.printing.proofs.Printed.{part_length}
use Rattle.lab_sheet.proofs.dump_seat.Goals as goal

pub returns : goal.returns
returns c = λ h.
    let all = ap (λ s. length s.now) c.line-line.ensures.sheet in
    let first = c.line-line.ensures.at in
    let front = c.dump_rows.ensures.at (omega (arith, first, all, h)) in
    let identity = part_length c.dump_rows.new.dump.sheet.now c.dump_rows.new.dump.at c.from.result in
    let lines = ap (λ i. length i.rest.now) c.into_iter-letters-iterator.ensures.into_iter_gives
    ∙ ap length c.chunks-letters-items.ensures.rest ∙ ap length c.part.ensures in
    omega (arith, first, front, all, identity, lines, c.loop-letters.invariant, c.from.ensures, c.octet_at-length.type_inv, h)
