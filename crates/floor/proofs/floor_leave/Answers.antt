-- `floor::floor_leave` keeps its promise, `LeavePromise desk.old seat report.old result desk.new report.new`. A seat leaves. Assumes
-- nothing.
use Rattle.signed.proofs.Signed.{passed}
use Rattle.desk_test.proofs.Desks.{has_room}
use Rattle.desk_steps.proofs.Steps.{same_leaves, no_desk_so}
use Rattle.desk_steps.specs.Steps.{outcome_on}
use mathlib.Core.Path.{sym, ◌∙◌}
use Rattle.floor.proofs.floor_leave.Goals as goal

pub core_at-core-requires : goal.core_at-core-requires
core_at-core-requires c = has_room _ (sym c.is_desk.ensures ∙ c.if-not-is_desk.false)

pub hall_at-hall-requires : goal.hall_at-hall-requires
hall_at-hall-requires c = has_room _ (sym c.is_desk.ensures ∙ c.if-not-is_desk.false)

pub names_at-names-requires : goal.names_at-names-requires
names_at-names-requires c =
    has_room _ (sym c.is_desk.ensures
    ∙ c.if-not-is_desk.false)

pub settle_outcome-requires : goal.settle_outcome-requires
settle_outcome-requires c =
    sym c.is_desk.ensures
    ∙ c.if-not-is_desk.false

pub returns : goal.returns
returns c =
    rw (
      ← c.core_at-core.ensures,
      ← c.hall_at-hall.ensures,
      ← c.names_at-names.ensures,
      ← c.seat_numbered.ensures,
      ← c.leave_call-outcome.ensures,
    )
    (same_leaves (passed c.settle_outcome.type_inv)
    ∙ c.settle_outcome.ensures)

pub returns-then-not-is_desk : goal.returns-then-not-is_desk
unfolding outcome_on
returns-then-not-is_desk c =
    same_leaves (passed c.refusal.type_inv ∙ c.refusal.ensures)
    ∙ sym (no_desk_so _ _ _ _ _ (sym c.is_desk.ensures ∙ c.if-not-is_desk.true))
