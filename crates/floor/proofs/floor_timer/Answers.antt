-- `floor::floor_timer` meets its contract. Assumes nothing.
use Rattle.signed.proofs.Signed.{passed}
use Rattle.desk_steps.proofs.Steps.{same_leaves}
use mathlib.Core.Path.{◌∙◌}
use Rattle.floor.proofs.floor_timer.Goals as goal

pub returns : goal.returns
returns c =
    rw (← c.timer_named-named.ensures)
    (same_leaves (passed c.event_on.type_inv) ∙ c.event_on.ensures)
