-- `octets::put32` keeps its promise, `room.new ≡ over room.old at (octets32 n)`. Writes a number as four octets at `at`. Assumes nothing.
use Prim.Native.Nat.{ℕ, ◌+◌, ◌/◌, ◌%◌, ◌≤◌}
use mathlib.Core.Path.{◌∙◌, ap}
use mathlib.Core.List.{List}
use lib.ListN.{length}
use Rattle.octets.specs.Octets.{over, octets16, octets32}
use Rattle.octets.proofs.Over.{over-two}
use native.Mathlib.Omega.{arith}
use Rattle.octets.proofs.put32.Goals as goal

pub returns : goal.returns
unfolding octets16 octets32
returns c =
    let a = c.args in
    let p : a.at + 4 ≤ length a.room.now = c.requires in
    c.put16-2.ensures
    ∙ ap (λ (r : List ℕ). over r (a.at + 2) (octets16 (a.n % 65536))) c.put16.ensures
    ∙ over-two a.room.now a.at (octets16 (a.n / 65536)) (octets16 (a.n % 65536)) (omega arith)
