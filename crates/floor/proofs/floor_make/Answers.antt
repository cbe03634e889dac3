-- `floor::floor_make` keeps its promise, `MakePromise desk.old (settings_of ssrc level limit c7 c20 duration normal) result desk.new`.
-- Makes a fresh desk. Assumes nothing.
use Rattle.signed.proofs.Signed.{passed, pair_same}
use mathlib.Core.Path.{refl, ◌∙◌}
use Rattle.floor.proofs.floor_make.Goals as goal

pub returns : goal.returns
returns c = pair_same (passed c.make_desk.type_inv) refl ∙ c.make_desk.ensures
