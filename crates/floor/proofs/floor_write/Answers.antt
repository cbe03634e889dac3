-- `floor::floor_write` keeps its promise, `WritePromise message.now source.now room.old result room.new`. Writes a message as a packet.
-- Assumes nothing.
use Rattle.message_octets.specs.Held.{held_at}
use lib.ListN.{length}
use Rattle.signed.specs.Signed.{signed}
use Rattle.desk_looking.proofs.Short.{held_short}
use Rattle.signed.proofs.Signed.{passed, pair_same}
use mathlib.Core.Path.{◌∙◌, ap}
use Rattle.floor.proofs.floor_write.Goals as goal

pub written_number-requires : goal.written_number-requires
written_number-requires c =
    rw c.write_held.ensures.0
    (held_short (held_at c.args.message.now)
    c.args.source.now
    (length c.args.room.now))

pub returns : goal.returns
returns c =
    pair_same (passed c.written_number.type_inv ∙ c.written_number.ensures ∙ ap signed c.write_held.ensures.0)
    c.write_held.ensures.1
