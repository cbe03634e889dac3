-- What the proofs of the choices by a number open: their definitions, and the choice itself. Assumes nothing.
use Prim.Native.Nat.{ℕ}
use Rattle.words.specs.Choice.{when◌then◌else◌}
use Rattle.desk_octets.specs.Form.{also_of, phase_of}

unfoldable pub choosing : Type 0
unfolding also_of phase_of when◌then◌else◌
choosing = ℕ
