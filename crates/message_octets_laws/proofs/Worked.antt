-- One message with every field, by computing alone: its octets are written here by hand from docs/FORMS.md, so that the definitions are
-- held from outside. The values are chosen so that each octet from 8 on is its own place. Assumes nothing.
use Prim.Native.Nat.{ℕ}
use mathlib.Core.Bool.{true}
use mathlib.Core.List.{List, [], ◌∷◌}
use mathlib.Core.Path.{◌≡◌, refl}
use Rattle.std.specs.Prelude.{Some}
use Rattle.words.specs.Choice.{when◌then◌else◌}
use Rattle.octets.specs.Octets.{be16, be32, octets16, octets32}
use Rattle.message.specs.Message.{has}
use Rattle.message.specs.declared.MessageType.TheVariants.{Taken}
use Rattle.message.specs.declared.Message.{Message}
use Rattle.message_octets.specs.Held.{which, head_octets, first_octets, next_octets, part_in_four, part_octets, held_octets}
use Rattle.message_octets.specs.Held.{message_with}
use Rattle.message_octets.specs.Held.{unlisted_field, held_at}

abbrev full : Message
full =
    record {
      kind = Taken;
      ack = true;
      ssrc = 0x01020304;
      priority = Some 8;
      duration = Some 0x0A0B;
      cause = Some (record { cause = 0x0C0D; phrase = record { from = 0x1C1D; count = 0x1E1F } });
      queue = Some (record { place = 14; priority = 15 });
      granted = Some (record { from = 0x2021; count = 0x2223 });
      permission = Some 0x1011;
      user = Some (record { from = 0x2425; count = 0x2627 });
      sequence = Some 0x1213;
      source = Some 0x1415;
      message_type = Some 9;
      indicator = Some 0x1617;
      ssrc_field = Some 0x18191A1B;
    }

-- type 2, the Ack bit, the bits of IDs 14, 13, 12, 10, 8 and 6 to 0, SSRC
abbrev octets : List ℕ
octets =
    2 ∷ 1 ∷ 117 ∷ 127 ∷ 1 ∷ 2 ∷ 3 ∷ 4
    ∷ 8 ∷ 9 ∷ 10 ∷ 11 ∷ 12 ∷ 13 ∷ 14 ∷ 15 ∷ 16 ∷ 17 ∷ 18 ∷ 19 ∷ 20 ∷ 21 ∷ 22 ∷ 23
    ∷ 24 ∷ 25 ∷ 26 ∷ 27 ∷ 28 ∷ 29 ∷ 30 ∷ 31 ∷ 32 ∷ 33 ∷ 34 ∷ 35 ∷ 36 ∷ 37 ∷ 38 ∷ 39 ∷ []

pub full_held : held_octets full ≡ octets
unfolding held_octets head_octets first_octets next_octets part_octets part_in_four which has octets16 octets32 when◌then◌else◌
full_held = refl

pub full_read : held_at octets ≡ Some full
unfolding held_at message_with unlisted_field be16 be32 when◌then◌else◌
full_read = refl
