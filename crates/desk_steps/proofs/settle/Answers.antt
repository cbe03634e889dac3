-- `desk_steps::settle` meets its contract. Assumes nothing.
use Rattle.std.proofs.Common.{rules, ◌≡◌, ◌≤◌, length, ◌∙◌}
use Rattle.octets.specs.Octets.{over}
use Rattle.desk_octets.specs.Places.{desk_size, phase_place}
use Rattle.desk_octets.specs.Form.{core_octets}
use Rattle.desk_octets.proofs.Facts.{octets_lent}
use Rattle.desk_octets.proofs.Forth.{core_written}
use Rattle.desk_test.proofs.Desks.{fits, has_room}
use Rattle.signed.proofs.Signed.{passed}
use Rattle.desk_steps.specs.Steps.{outcome_on, step_on}
use Rattle.desk_steps.proofs.Steps.{same_leaves, settles_by}
use Rattle.desk_steps.proofs.settle.Goals as goal

pub settled-requires-clause-writes : goal.settled-requires-clause-writes
settled-requires-clause-writes c =
    λ lent e. let h : desk_size ≤ length lent.now = rw e (has_room _ c.requires) in search rules

pub returns : goal.returns
unfolding outcome_on step_on
returns c =
    let d = c.args.desk.now in
    let o = octets_lent d (search rules) in
    same_leaves (passed c.settled.type_inv) ∙ c.settled.ensures.leaves
    ∙ settles_by d c.args.report.now _ _ _ _
    (λ e l. let w = c.settled.ensures.written e l in
    let z : c.settled.new.desk ≡ over d phase_place (core_octets c.args.step.core) = search rules in
    z ∙ core_written d o (fits d c.requires) c.args.step.core)
