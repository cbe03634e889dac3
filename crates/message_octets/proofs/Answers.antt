-- The cases of what octets hold, and of what is answered. Assumes nothing.
use Prim.Native.Nat.{ℕ, ◌≤◌, ◌<◌}
use mathlib.Core.Bool.{false}
use mathlib.Core.List.{List}
use mathlib.Core.Path.{◌≡◌, ap}
use lib.ListN.{length}
use borrow.Author.Tests.{eq-eqb, lt-ltb, le-ltb}
use Rattle.words.specs.Choice.{when◌then◌else◌}
use Rattle.octets.specs.Octets.{be16, over, nth_octet}
use Rattle.message.specs.Types.{typed}
use Rattle.message.specs.Answers.{refused, result}
use Rattle.std.specs.Prelude.{Option}
use Rattle.message.specs.declared.MessageType.{MessageType}
use Rattle.message.specs.declared.Message.{Message}
use Rattle.reading.specs.Reading.{reading}
use Rattle.message_octets.specs.Held.{held_octets, unlisted_field, held_of_type, held_at, read_held, kept_in}
use Rattle.message_octets.specs.Places.{type_place, ack_place, fields_place, message_size}

-- octets in the form hold a message if their type is listed
pub held_is : (s : List ℕ) (t : Option MessageType) → length s ≡ message_size → nth_octet s ack_place ≤ 1 →
    unlisted_field (be16 s fields_place) ≡ false →
    typed (nth_octet s type_place) ≡ t
    → held_at s ≡ held_of_type t s
unfolding held_at when◌then◌else◌
held_is s t l a u e = simp (eq-eqb _ _ l, le-ltb _ _ a, u) (ap (λ (x : Option MessageType). held_of_type x s) e)

module _ (packet room : List ℕ) where
  pub refused_is : (n : ℕ) → reading packet ≡ refused n → (n ≡ read_held packet (length room)) × (room ≡ kept_in packet room)
  unfolding read_held kept_in
  refused_is n e = (rw e, rw e)

  pub short_is : (m : Message) → reading packet ≡ result m → length room < message_size
      → (13 ≡ read_held packet (length room)) × (room ≡ kept_in packet room)
  unfolding read_held kept_in when◌then◌else◌
  short_is m e h = (simp (e, lt-ltb _ _ h), simp (e, lt-ltb _ _ h))

  pub kept_is : (m : Message) (room' : List ℕ) → reading packet ≡ result m → message_size ≤ length room →
      room' ≡ over room 0 (held_octets m)
      → (0 ≡ read_held packet (length room)) × (room' ≡ kept_in packet room)
  unfolding read_held kept_in when◌then◌else◌
  kept_is m room' e h q = (simp (e, le-ltb _ _ h), simp (e, le-ltb _ _ h) q)
