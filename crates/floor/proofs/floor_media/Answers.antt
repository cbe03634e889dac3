-- `floor::floor_media` keeps its promise, `MediaPromise desk.old ssrc report.old result desk.new report.new`. Assumes nothing.
use Rattle.signed.proofs.Signed.{passed}
use Rattle.desk_steps.proofs.Steps.{same_leaves}
use mathlib.Core.Path.{◌∙◌}
use Rattle.floor.proofs.floor_media.Goals as goal

pub returns : goal.returns
returns c =
    same_leaves (passed c.event_on.type_inv) ∙ c.event_on.ensures
