-- `signed::refusal` keeps its promise, `result ≡ told_as n`. Assumes nothing.
use Rattle.signed.proofs.Signed.{minus_is}
use native.Mathlib.Omega.{arith}
use Rattle.signed.proofs.refusal.Goals as goal

pub returns : goal.returns
returns c = minus_is c.args.n (omega (arith, c.ranges.n))
