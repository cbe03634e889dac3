-- What stands as octets stands as zeros where a field is absent. Assumes nothing.
use Rattle.std.specs.Prelude.{◌≡◌, refl, replicate, length}
use Rattle.octets.specs.Octets.{octets16, octets32}
use Rattle.message.specs.declared.Part.{Part}
use Rattle.message_octets.specs.Held.{no_part, part_in_four}

pub zeros16 : octets16 0 ≡ replicate 2 0
unfolding octets16
zeros16 = refl

pub zeros32 : octets32 0 ≡ replicate 4 0
unfolding octets32 octets16
zeros32 = refl

pub zeros_part : part_in_four no_part ≡ replicate 4 0
unfolding part_in_four octets16
zeros_part = refl

pub four_long : (p : Part) → length (part_in_four p) ≡ 4
unfolding part_in_four octets16
four_long p = refl
