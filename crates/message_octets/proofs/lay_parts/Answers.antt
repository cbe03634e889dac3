-- `message_octets::lay_parts` lays the parts of its row, each where the one before it ends. Assumes nothing.
use mathlib.Core.Path.{◌≡◌, refl}
use Rattle.std.specs.Prelude.{option_map}
use Rattle.std.proofs.Common.{rules}
use Prim.Native.Nat.{ℕ, ◌+◌}
use mathlib.Core.Bool.{Bool, true, false}
use Rattle.octets.specs.Octets.{octets16}
use Rattle.reading.specs.Reading.{message_at}
use Rattle.message_octets.specs.Places.{phrase_place}
use Rattle.message_octets.specs.Held.{worth_if, part_in_four, part_octets}
use Rattle.message_octets.specs.Laying.{parts_worth}
use Rattle.message_octets.proofs.Laying.{lays_two}
use native.Mathlib.Omega.{arith}
use Rattle.message_octets.proofs.lay_parts.Goals as goal

pub lay-has-requires-2-clause-blank : goal.lay-has-requires-2-clause-blank
unfolding part_in_four octets16
lay-has-requires-2-clause-blank c = (c.lay-has.ensures.lays.blank, omega arith)

pub lay-requires-clause-blank : goal.lay-requires-clause-blank
unfolding part_in_four octets16
lay-requires-clause-blank c = (c.lay-has-2.ensures.lays.blank, omega arith)

pub returns-clause-lays : goal.returns-clause-lays
unfolding part_octets message_at part_in_four octets16
returns-clause-lays c = λ k.
    let r = c.args.room.now in
    let b = c.requires.blank in
    let phrase : c.map-phrase.result ≡ option_map (λ x. x.phrase) c.cause_at.result = search rules in
    let l1 = lays_two r phrase_place _ b _ _ _ c.lay-has.ensures.lays 4 refl c.lay-has-2.ensures.lays (omega arith) in
    let l2 = lays_two r phrase_place _ b _ _ _ l1 8 refl c.lay.ensures.lays (omega arith) in
    rw (← c.part_at.ensures, ← c.part_at-2.ensures, ← c.cause_at.ensures, ← phrase) l2

worthless : (b : Bool) (n : ℕ) → n + worth_if b 0 ≡ n
worthless true n = omega arith
worthless false n = omega arith

pub returns-clause-value : goal.returns-clause-value
unfolding parts_worth message_at
returns-clause-value c = λ k.
    rw (
      c.lay.ensures.value,
      c.lay-has-2.ensures.value,
      c.lay-has.ensures.value,
      worthless,
      c.part_at.ensures,
      c.part_at-2.ensures,
    )
