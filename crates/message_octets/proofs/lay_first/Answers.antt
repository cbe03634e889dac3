-- `message_octets::lay_first` lays the fields of its row, each where the one before it ends. Assumes nothing.
use mathlib.Core.Path.{◌≡◌, refl}
use Rattle.std.specs.Prelude.{option_map}
use Rattle.std.proofs.Common.{rules}
use Rattle.octets.specs.Octets.{octets16}
use Rattle.reading.specs.Reading.{message_at}
use Rattle.message_octets.specs.Places.{priority_place}
use Rattle.message_octets.specs.Held.{first_octets}
use Rattle.message_octets.specs.Laying.{first_worth}
use Rattle.message_octets.proofs.Laying.{lays_two}
use native.Mathlib.Omega.{arith}
use Rattle.message_octets.proofs.lay_first.Goals as goal

pub lay-has-requires-4-clause-blank : goal.lay-has-requires-4-clause-blank
unfolding octets16
lay-has-requires-4-clause-blank c = (c.lay-has-3.ensures.lays.blank, omega arith)

pub lay-requires-clause-blank : goal.lay-requires-clause-blank
unfolding octets16
lay-requires-clause-blank c = (c.lay-has-4.ensures.lays.blank, omega arith)

pub returns-clause-lays : goal.returns-clause-lays
unfolding first_octets message_at octets16
returns-clause-lays c = λ k.
    let r = c.args.room.now in
    let b = c.requires.blank in
    let cause : c.map-cause.result ≡ option_map (λ x. x.cause) c.cause_at.result = search rules in
    let l1 = lays_two r priority_place _ b _ _ _ c.lay-has.ensures.lays 1 refl c.lay-has-2.ensures.lays (omega arith) in
    let l2 = lays_two r priority_place _ b _ _ _ l1 2 refl c.lay-has-3.ensures.lays (omega arith) in
    let l3 = lays_two r priority_place _ b _ _ _ l2 4 refl c.lay-has-4.ensures.lays (omega arith) in
    let l4 = lays_two r priority_place _ b _ _ _ l3 6 refl c.lay.ensures.lays (omega arith) in
    rw (
      ← c.octet_at-priority.ensures,
      ← c.octet_at-message_type.ensures,
      ← c.word_at-duration.ensures,
      ← c.queue_at-queue.ensures,
      ← c.cause_at.ensures,
      ← cause,
    ) l4

pub returns-clause-value : goal.returns-clause-value
unfolding first_worth message_at
returns-clause-value c = λ k.
    rw (
      c.lay.ensures.value,
      c.lay-has-4.ensures.value,
      c.lay-has-3.ensures.value,
      c.lay-has-2.ensures.value,
      c.lay-has.ensures.value,
      c.map-cause.ensures.variant,
      c.octet_at-priority.ensures,
      c.octet_at-message_type.ensures,
      c.word_at-duration.ensures,
      c.queue_at-queue.ensures,
      c.cause_at.ensures,
    )
