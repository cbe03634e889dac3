-- A flag and its octet, both ways. Assumes nothing.
use Prim.Native.Nat.{ℕ}
use native.Mathlib.Omega.{arith}
use mathlib.Core.Path.{◌≡◌, refl}
use mathlib.Core.Bool.{Bool, true, false}
use lib.Dec.{eqb, leb}
use Rattle.std.proofs.lemmas.Bool.Decides.{nat_tests}
use Rattle.words.specs.Choice.{one}

pub flag_back : (b : Bool) → eqb (one b) 1 ≡ b
flag_back true = refl
flag_back false = refl

pub flag_fits : (b : Bool) → leb (one b) 1 ≡ true
flag_fits true = refl
flag_fits false = refl

pub flag_forth : (n : ℕ) → leb n 1 ≡ true → one (eqb n 1) ≡ n
flag_forth n h = grind (arith, nat_tests)
