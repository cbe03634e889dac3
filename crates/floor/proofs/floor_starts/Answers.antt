-- `floor::floor_starts` keeps its promise, `StartsPromise before after fired report.now result`. The clocks to start anew after a step.
-- Assumes nothing.
use Rattle.signed.proofs.Signed.{passed}
use mathlib.Core.Path.{◌∙◌}
use Rattle.floor.proofs.floor_starts.Goals as goal

pub returns : goal.returns
returns c = passed c.starts_on.type_inv ∙ c.starts_on.ensures
