-- A seat's flags as an octet: they read back, they are few, and an octet up to the top is written again. Assumes nothing.
use Rattle.std.proofs.Common.{ℕ, arith}
use Rattle.std.proofs.lemmas.Bool.Decides.{nat_tests}
use Rattle.words.specs.Choice.{when◌then◌else◌}
use Rattle.seat_octets.specs.Layout.{flags_octet, flags_of}
use Rattle.seat_octets.specs.Laws.{FlagsBack, FlagsFew, FlagsForth}

-- what a proof about the octet of flags opens
unfoldable pub octet_of_flags : Type 0
unfolding flags_octet when◌then◌else◌
octet_of_flags = ℕ

pub flags_few : FlagsFew
unfolding octet_of_flags
flags_few f = grind arith

pub flags_back : FlagsBack
unfolding octet_of_flags flags_of
flags_back f = grind arith

pub flags_forth : FlagsForth
unfolding octet_of_flags flags_of
flags_forth n h = grind (arith, nat_tests)
