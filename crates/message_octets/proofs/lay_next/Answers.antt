-- `message_octets::lay_next` lays the fields of its row, each where the one before it ends. Assumes nothing.
use mathlib.Core.Path.{refl}
use Rattle.octets.specs.Octets.{octets16, octets32}
use Rattle.reading.specs.Reading.{message_at}
use Rattle.message_octets.specs.Places.{permission_place}
use Rattle.message_octets.specs.Held.{next_octets}
use Rattle.message_octets.specs.Laying.{next_worth}
use Rattle.message_octets.proofs.Laying.{lays_two}
use native.Mathlib.Omega.{arith}
use Rattle.message_octets.proofs.lay_next.Goals as goal

pub lay-has-requires-2-clause-blank : goal.lay-has-requires-2-clause-blank
unfolding octets16
lay-has-requires-2-clause-blank c = (c.lay-has.ensures.lays.blank, omega arith)

pub lay-has-requires-3-clause-blank : goal.lay-has-requires-3-clause-blank
unfolding octets16
lay-has-requires-3-clause-blank c = (c.lay-has-2.ensures.lays.blank, omega arith)

pub lay-has-requires-4-clause-blank : goal.lay-has-requires-4-clause-blank
unfolding octets16
lay-has-requires-4-clause-blank c = (c.lay-has-3.ensures.lays.blank, omega arith)

pub lay-requires-clause-blank : goal.lay-requires-clause-blank
unfolding octets16
lay-requires-clause-blank c = (c.lay-has-4.ensures.lays.blank, omega arith)

pub returns-clause-lays : goal.returns-clause-lays
unfolding next_octets message_at octets16 octets32
returns-clause-lays c = λ k.
    let r = c.args.room.now in
    let b = c.requires.blank in
    let l1 = lays_two r permission_place _ b _ _ _ c.lay-has.ensures.lays 2 refl c.lay-has-2.ensures.lays (omega arith) in
    let l2 = lays_two r permission_place _ b _ _ _ l1 4 refl c.lay-has-3.ensures.lays (omega arith) in
    let l3 = lays_two r permission_place _ b _ _ _ l2 6 refl c.lay-has-4.ensures.lays (omega arith) in
    let l4 = lays_two r permission_place _ b _ _ _ l3 8 refl c.lay.ensures.lays (omega arith) in
    rw (
      ← c.word_at-permission.ensures,
      ← c.word_at-sequence.ensures,
      ← c.word_at-source.ensures,
      ← c.word_at-indicator.ensures,
      ← c.number_at-ssrc.ensures,
    ) l4

pub returns-clause-value : goal.returns-clause-value
unfolding next_worth message_at
returns-clause-value c = λ k.
    rw (
      c.lay.ensures.value,
      c.lay-has-4.ensures.value,
      c.lay-has-3.ensures.value,
      c.lay-has-2.ensures.value,
      c.lay-has.ensures.value,
      c.word_at-permission.ensures,
      c.word_at-sequence.ensures,
      c.word_at-source.ensures,
      c.word_at-indicator.ensures,
      c.number_at-ssrc.ensures,
    )
