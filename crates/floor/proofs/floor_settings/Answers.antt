-- `floor::floor_settings` keeps its promise, `SettingsPromise desk.now room.old result room.new`. The settings as the sheet lays them out.
-- Assumes nothing.
use Rattle.signed.proofs.Signed.{passed, pair_same}
use mathlib.Core.Path.{refl, ◌∙◌}
use Rattle.floor.proofs.floor_settings.Goals as goal

pub returns : goal.returns
returns c = pair_same (passed c.settings_on.type_inv) refl ∙ c.settings_on.ensures
