-- What the proofs open of functions that put piece behind piece. Assumes nothing.
use Prim.Native.Nat.{ℕ}
use Rattle.octets.specs.Octets.{octets16}
use Rattle.desk_octets.specs.Form.{phase_octets, core_octets}

unfoldable pub pieces : Type 0
unfolding core_octets phase_octets octets16
pieces = ℕ
