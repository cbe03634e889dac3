-- `writing::size_of` adds no more than fits: the two halves are at most 340 and 88. Assumes nothing.
use native.Mathlib.Omega.{arith}
use Rattle.writing.proofs.Lengths.{front_whole, rest_whole}
use Rattle.writing.proofs.size_of.Goals as goal

pub overflow_add-result : goal.overflow_add-result
overflow_add-result c = omega (arith, (front_whole c.args.m c.requires).small, (rest_whole c.args.m c.requires).small)

pub overflow_add-result-2 : goal.overflow_add-result-2
overflow_add-result-2 c = omega (arith, (front_whole c.args.m c.requires).small, (rest_whole c.args.m c.requires).small)
