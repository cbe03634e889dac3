-- `clocks_looking::timer_set` keeps its promise, `result ≡ timer_set t`. Assumes nothing.
use Rattle.report_octets.proofs.Masks.{byte-most}
use Rattle.clocks_looking.specs.ClockSets.{timer_set}
use Rattle.clocks_looking.proofs.Bits.{weighs}
use native.Mathlib.Omega.{arith}
use Rattle.clocks_looking.proofs.timer_set.Goals as goal

pub returns-clause-value : goal.returns-clause-value
unfolding timer_set
returns-clause-value c =
    let t = c.args.t in
    rw (
      c.from.ensures,
      c.from-2.ensures,
      c.from-3.ensures,
      c.from-4.ensures,
      c.from-5.ensures,
      c.from-6.ensures,
      c.from-7.ensures,
      weighs t.t1 2,
      weighs t.t2 4,
      weighs t.t3 8,
      weighs t.t4 16,
      weighs t.t7 128,
      weighs t.t8 256,
      weighs t.t20 1048576,
    )

pub returns-clause-upper_bound : goal.returns-clause-upper_bound
returns-clause-upper_bound c =
    omega (
      arith,
      c.from.ensures,
      c.from-2.ensures,
      c.from-3.ensures,
      c.from-4.ensures,
      c.from-5.ensures,
      c.from-6.ensures,
      c.from-7.ensures,
      byte-most,
    )
