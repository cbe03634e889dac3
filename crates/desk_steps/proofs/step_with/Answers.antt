-- `desk_steps::step_with` meets its contract. Assumes nothing.
use Rattle.std.proofs.Common.{sym, ◌∙◌}
use Rattle.desk_test.proofs.Desks.{has_room}
use Rattle.desk_steps.proofs.step_with.Goals as goal

pub core_at-requires : goal.core_at-requires
core_at-requires g c = has_room _ (sym c.is_desk.ensures ∙ c.if-not-is_desk.false)

pub hall_at-requires : goal.hall_at-requires
hall_at-requires g c = has_room _ (sym c.is_desk.ensures ∙ c.if-not-is_desk.false)
