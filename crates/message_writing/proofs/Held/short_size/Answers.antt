-- `message_writing::Held::short_size` adds no more than fits: the whole sum is at most 40. Assumes nothing.
use native.Mathlib.Omega.{arith}
use Rattle.field_writing.proofs.Sizes.{octet_whole, word_whole, queue_whole, number_whole}
use Rattle.message_octets.specs.Held.{message_with}
use Rattle.message_writing.specs.Writes.{message_in}
use Rattle.message_writing.proofs.Held.short_size.Goals as goal

pub overflow_add-result : goal.overflow_add-result
unfolding message_in message_with
overflow_add-result c =
    omega (
      arith,
      (octet_whole c.field.result).small,
      (word_whole c.field-2.result).small,
    )

pub overflow_add-result-2 : goal.overflow_add-result-2
unfolding message_in message_with
overflow_add-result-2 c =
    omega (
      arith,
      (octet_whole c.field.result).small,
      (word_whole c.field-2.result).small,
      (queue_whole c.field-3.result).small,
    )

pub overflow_add-result-3 : goal.overflow_add-result-3
unfolding message_in message_with
overflow_add-result-3 c =
    omega (
      arith,
      (octet_whole c.field.result).small,
      (word_whole c.field-2.result).small,
      (queue_whole c.field-3.result).small,
      (word_whole c.field-4.result).small,
    )

pub overflow_add-result-4 : goal.overflow_add-result-4
unfolding message_in message_with
overflow_add-result-4 c =
    omega (
      arith,
      (octet_whole c.field.result).small,
      (word_whole c.field-2.result).small,
      (queue_whole c.field-3.result).small,
      (word_whole c.field-4.result).small,
      (word_whole c.field-5.result).small,
    )

pub overflow_add-result-5 : goal.overflow_add-result-5
unfolding message_in message_with
overflow_add-result-5 c =
    omega (
      arith,
      (octet_whole c.field.result).small,
      (word_whole c.field-2.result).small,
      (queue_whole c.field-3.result).small,
      (word_whole c.field-4.result).small,
      (word_whole c.field-5.result).small,
      (word_whole c.field-6.result).small,
    )

pub overflow_add-result-6 : goal.overflow_add-result-6
unfolding message_in message_with
overflow_add-result-6 c =
    omega (
      arith,
      (octet_whole c.field.result).small,
      (word_whole c.field-2.result).small,
      (queue_whole c.field-3.result).small,
      (word_whole c.field-4.result).small,
      (word_whole c.field-5.result).small,
      (word_whole c.field-6.result).small,
      (octet_whole c.field-7.result).small,
    )

pub overflow_add-result-7 : goal.overflow_add-result-7
unfolding message_in message_with
overflow_add-result-7 c =
    omega (
      arith,
      (octet_whole c.field.result).small,
      (word_whole c.field-2.result).small,
      (queue_whole c.field-3.result).small,
      (word_whole c.field-4.result).small,
      (word_whole c.field-5.result).small,
      (word_whole c.field-6.result).small,
      (octet_whole c.field-7.result).small,
      (word_whole c.field-8.result).small,
    )

pub overflow_add-result-8 : goal.overflow_add-result-8
unfolding message_in message_with
overflow_add-result-8 c =
    omega (
      arith,
      (octet_whole c.field.result).small,
      (word_whole c.field-2.result).small,
      (queue_whole c.field-3.result).small,
      (word_whole c.field-4.result).small,
      (word_whole c.field-5.result).small,
      (word_whole c.field-6.result).small,
      (octet_whole c.field-7.result).small,
      (word_whole c.field-8.result).small,
      (number_whole c.field-9.result).small,
    )

pub returns-clause-upper_bound : goal.returns-clause-upper_bound
unfolding message_in message_with
returns-clause-upper_bound c =
    omega (
      arith,
      (octet_whole c.field.result).small,
      (word_whole c.field-2.result).small,
      (queue_whole c.field-3.result).small,
      (word_whole c.field-4.result).small,
      (word_whole c.field-5.result).small,
      (word_whole c.field-6.result).small,
      (octet_whole c.field-7.result).small,
      (word_whole c.field-8.result).small,
      (number_whole c.field-9.result).small,
    )
