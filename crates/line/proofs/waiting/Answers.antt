-- `line::waiting` meets its contract. Assumes nothing.
use Prim.Native.Nat.{ℕ, min}
use mathlib.Core.Path.{◌≡◌, ap, ◌∙◌}
use native.Mathlib.Omega.{arith}
use lib.ListN.{length, take, length-take}
use Rattle.std.proofs.lemmas.List.{take_min}
use Rattle.line.specs.Line.{waiting}
use Rattle.line.proofs.waiting.Goals as goal

pub returns : goal.returns
unfolding waiting
returns c =
    let es = c.args.line.now.entries in
    let n : 15 ≡ length es = omega arith in (
      rw c.min.ensures (ap (λ (k : ℕ). take (min c.args.line.now.len k) es) n ∙ take_min c.args.line.now.len es),
      simp length-take (omega arith),
    )
