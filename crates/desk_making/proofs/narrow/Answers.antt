-- `desk_making::narrow` keeps its promise, `result ≡ narrowed wide`. Assumes nothing.
use Rattle.desk_making.specs.Making.{narrowed}
use Rattle.desk_making.proofs.Making.{octets_hold}
use native.Mathlib.Omega.{arith}
use Rattle.desk_making.proofs.narrow.Goals as goal

pub overflow_cast-wide : goal.overflow_cast-wide
overflow_cast-wide c = let f = octets_hold (narrowed c.args.wide) c.requires (omega arith) in omega (arith, f.level)

pub overflow_cast-wide-2 : goal.overflow_cast-wide-2
overflow_cast-wide-2 c = let f = octets_hold (narrowed c.args.wide) c.requires (omega arith) in omega (arith, f.limit)

pub overflow_cast-wide-3 : goal.overflow_cast-wide-3
overflow_cast-wide-3 c = let f = octets_hold (narrowed c.args.wide) c.requires (omega arith) in omega (arith, f.c7)

pub overflow_cast-wide-4 : goal.overflow_cast-wide-4
overflow_cast-wide-4 c = let f = octets_hold (narrowed c.args.wide) c.requires (omega arith) in omega (arith, f.c20)

pub overflow_cast-wide-5 : goal.overflow_cast-wide-5
overflow_cast-wide-5 c = let f = octets_hold (narrowed c.args.wide) c.requires (omega arith) in omega (arith, f.duration)

pub overflow_cast-wide-6 : goal.overflow_cast-wide-6
overflow_cast-wide-6 c = let f = octets_hold (narrowed c.args.wide) c.requires (omega arith) in omega (arith, f.normal)
