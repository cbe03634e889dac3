-- `message_writing::Held::text_size` adds no more than fits: the whole sum is at most 388. Assumes nothing.
use native.Mathlib.Omega.{arith}
use Rattle.field_writing.proofs.Sizes.{part_whole, cause_whole}
use Rattle.message_octets.specs.Held.{message_with}
use Rattle.message_writing.specs.Writes.{message_in}
use Rattle.message_writing.proofs.Held.text_size.Goals as goal

pub overflow_add-result : goal.overflow_add-result
unfolding message_in message_with
overflow_add-result c =
    omega (
      arith,
      (cause_whole c.cause.result (rw c.cause.ensures c.requires.phrase)).small,
      (part_whole c.field.result (rw c.field.ensures c.requires.granted)).small,
    )

pub overflow_add-result-2 : goal.overflow_add-result-2
unfolding message_in message_with
overflow_add-result-2 c =
    omega (
      arith,
      (cause_whole c.cause.result (rw c.cause.ensures c.requires.phrase)).small,
      (part_whole c.field.result (rw c.field.ensures c.requires.granted)).small,
      (part_whole c.field-2.result (rw c.field-2.ensures c.requires.user)).small,
    )

pub returns-clause-upper_bound : goal.returns-clause-upper_bound
unfolding message_in message_with
returns-clause-upper_bound c =
    omega (
      arith,
      (cause_whole c.cause.result (rw c.cause.ensures c.requires.phrase)).small,
      (part_whole c.field.result (rw c.field.ensures c.requires.granted)).small,
      (part_whole c.field-2.result (rw c.field-2.ensures c.requires.user)).small,
    )
