-- `desk_octets::all_below` meets its contract. The invariant says what is gathered of the numbers passed. Assumes nothing.
use Rattle.std.proofs.Common.{◌≡◌, ℕ, ◌<◌, Bool}
use Rattle.words.specs.Below.{all_below}
use Rattle.desk_octets.proofs.all_below.Given as goal

abbrev pub invariant-loop-i : goal.invariant-loop-i
invariant-loop-i g l =
    (f : ℕ → Bool) → ((i : ℕ) (b : Bool) → i < l.i → goal.F-post g l.test i b → b ≡ f i) → l.ok ≡ all_below f l.i
