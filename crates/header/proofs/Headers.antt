-- The header has its twelve octets. Assumes nothing.
use Prim.Native.Nat.{ℕ}
use mathlib.Core.Path.{◌≡◌, refl}
use lib.ListN.{length}
use Rattle.octets.specs.Octets.{octets16, octets32}
use Rattle.words.specs.Choice.{when◌then◌else◌}
use Rattle.header.specs.Header.{header_size, first_octet, headed}

-- what a proof about the first octet opens
unfoldable pub laying : Type 0
unfolding first_octet when◌then◌else◌
laying = ℕ

pub headed-length : (first ssrc size : ℕ) → length (headed first ssrc size) ≡ header_size
unfolding headed octets16 octets32
headed-length first ssrc size = refl
