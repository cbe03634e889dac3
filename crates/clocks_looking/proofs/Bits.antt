-- A bit as its weight, once or not at all. Assumes nothing.
use Rattle.std.proofs.Common.{ℕ, ◌*◌, Bool, true, false, ◌≡◌}
use native.Mathlib.Nat.{one-mul, zero-mul}
use mir.Val.{bool_byte}
use Rattle.words.specs.Choice.{when◌then◌else◌}
use Rattle.clocks_looking.specs.ClockSets.{bit}

pub weighs : (b : Bool) (n : ℕ) → bool_byte b * n ≡ bit b n
unfolding when◌then◌else◌
weighs true n = one-mul n
weighs false n = zero-mul n
