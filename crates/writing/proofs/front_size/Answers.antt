-- `writing::front_size` adds no more than fits: the whole sum is at most 340. Assumes nothing.
use native.Mathlib.Omega.{arith}
use Rattle.writing.proofs.Lengths.{front_whole}
use Rattle.writing.proofs.front_size.Goals as goal

pub overflow_add-result : goal.overflow_add-result
overflow_add-result c = omega (arith, (front_whole c.args.m c.requires).small)

pub overflow_add-result-2 : goal.overflow_add-result-2
overflow_add-result-2 c = omega (arith, (front_whole c.args.m c.requires).small)

pub overflow_add-result-3 : goal.overflow_add-result-3
overflow_add-result-3 c = omega (arith, (front_whole c.args.m c.requires).small)

pub overflow_add-result-4 : goal.overflow_add-result-4
overflow_add-result-4 c = omega (arith, (front_whole c.args.m c.requires).small)

pub overflow_add-result-5 : goal.overflow_add-result-5
overflow_add-result-5 c = omega (arith, (front_whole c.args.m c.requires).small)
