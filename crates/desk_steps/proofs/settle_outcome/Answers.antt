-- `desk_steps::settle_outcome` meets its contract. Assumes nothing.
use Rattle.std.proofs.Common.{rules, ◌≡◌, ◌≤◌, length, ◌∙◌}
use Rattle.octets.specs.Octets.{over}
use Rattle.desk_octets.specs.Places.{desk_size}
use Rattle.desk_octets.specs.Form.{octets_of_desk}
use Rattle.desk_octets.proofs.Facts.{fits_whole}
use Rattle.desk_octets.proofs.Forth.{over-desk}
use Rattle.desk_test.proofs.Desks.{fits, has_room}
use Rattle.signed.proofs.Signed.{passed}
use Rattle.desk_steps.specs.Steps.{outcome_on}
use Rattle.desk_steps.proofs.Steps.{same_leaves, settles_by}
use Rattle.desk_steps.proofs.settle_outcome.Goals as goal

pub settled-requires-clause-writes : goal.settled-requires-clause-writes
settled-requires-clause-writes c =
    λ lent e. let h : desk_size ≤ length lent.now = rw e (has_room _ c.requires) in search rules

pub returns : goal.returns
unfolding outcome_on
returns c =
    let d = c.args.desk.now in
    let k = c.args.outcome.desk in
    same_leaves (passed c.settled.type_inv) ∙ c.settled.ensures.leaves
    ∙ settles_by d c.args.report.now _ _ _ _
    (λ e l. let w = c.settled.ensures.written e l in
    let z : c.settled.new.desk ≡ over d 0 (octets_of_desk k.core k.hall k.names) = search rules in
    z ∙ over-desk d k.core k.hall k.names (fits_whole d (fits d c.requires)))
