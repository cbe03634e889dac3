-- What the search opens, so that it sees how many spare octets a field of the table has. Assumes nothing.
use Prim.Native.Nat.{ℕ}
use Rattle.words.specs.Choice.{when◌then◌else◌}
use Rattle.message.specs.Table.{row_in}

unfoldable pub by_table : Type 0
unfolding row_in when◌then◌else◌
by_table = ℕ
