-- `floor::floor_stops` keeps its promise, `StopsPromise before after result`. The clocks to stop. Assumes nothing.
use Rattle.signed.proofs.Signed.{passed}
use mathlib.Core.Path.{◌∙◌}
use Rattle.floor.proofs.floor_stops.Goals as goal

pub returns : goal.returns
returns c = passed c.stops_on.type_inv ∙ c.stops_on.ensures
