-- `hall::is_alone` meets its contract. Assumes nothing.
use mathlib.Core.Bool.{not}
use mathlib.Core.Path.{ap, ◌∙◌}
use Rattle.hall.specs.Seats.{alone, someone}
use Rattle.hall.proofs.Laws.{someone_any}
use Rattle.hall.proofs.is_alone.Goals as goal

pub returns : goal.returns
unfolding alone
returns c = ap not (c.contains.ensures.value ∙ someone_any _ ∙ ap someone c.all_others.ensures)
