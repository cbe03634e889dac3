-- What the search opens, so that it sees what a message has by the bits of its octets, and what the table says of its fields. Assumes
-- nothing.
use Prim.Native.Nat.{ℕ}
use Rattle.words.specs.Choice.{when◌then◌else◌}
use Rattle.message.specs.Table.{row_in}
use Rattle.message_octets.specs.Held.{message_with}
use Rattle.message_writing.specs.Writes.{message_in}

unfoldable pub by_form : Type 0
unfolding row_in when◌then◌else◌ message_with message_in
by_form = ℕ
