-- It stands behind the rows that were passed over.
use Rattle.std.proofs.Common.{ap, ◌∙◌, ◌+◌, ◌-◌, min, length}
use Rattle.lab_sheet.proofs.Rows.{row_passed}
use Rattle.lab_sheet.proofs.dump_rows.Goals.{in-Octet, in-Octets}
use Rattle.lab_sheet.proofs.dump_rows.Goals as goal

pub loop-row-preserved : goal.loop-row-preserved
loop-row-preserved c =
    let passed = row_passed c.args.rows.now c.loop-row.row-index in
    let there = c.loop-row-test.true in
    let so_far = c.loop-row.invariant in
    elim c.match-row.branch [
      | in-Octet w ↦ (
        ap (λ d. d.sheet) w.dump-is ∙ w.line-line.ensures.sheet ∙ so_far.0,
        λ h.
            ap (λ d. d.at) w.dump-is ∙ w.line-line.ensures.at
            ∙ ap (λ s. c.loop-row.dump.at + min 1 (length s.now - c.loop-row.dump.at)) so_far.0
            ∙ passed _ _ there w.in-Octet.is _ _ _ h (so_far.1 h),
      )
      | in-Octets w ↦ (
        ap (λ d. d.sheet) w.dump-is ∙ w.line-line-in-Octets.ensures.sheet ∙ so_far.0,
        λ h.
            ap (λ d. d.at) w.dump-is ∙ w.line-line-in-Octets.ensures.at
            ∙ ap (λ s. c.loop-row.dump.at + min w.in-Octets.count (length s.now - c.loop-row.dump.at)) so_far.0
            ∙ passed _ _ there w.in-Octets.is _ _ _ h (so_far.1 h),
      )
    ]
