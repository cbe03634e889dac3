-- `table_test::phase_fits` keeps its promise, `result ≡ phase_fits kind timers holder cause`. Assumes nothing.
use Rattle.std.proofs.Common.{arith, ◌≤◌}
use Rattle.std.proofs.lemmas.Bool.Decides.{nat_tests}
use Rattle.words.specs.Choice.{when◌then◌else◌}
use Rattle.desk_octets.specs.Form.{phase_fits}
use Rattle.table_test.proofs.phase_fits.Goals as goal

pub returns-in_default : goal.returns-in_default
unfolding phase_fits when◌then◌else◌
returns-in_default c = let far : 4 ≤ c.args.kind = omega arith in grind (arith, nat_tests)
