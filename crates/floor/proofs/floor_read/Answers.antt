-- `floor::floor_read` keeps its promise, `ReadPromise packet.now message.old result message.new`. Reads a packet into a message's 40
-- octets. Assumes nothing.
use Rattle.std.proofs.Common.{◌∙◌, ap}
use Rattle.signed.proofs.Signed.{passed, numbered, pair_same}
use Rattle.signed.specs.Signed.{told_as}
use Rattle.floor.proofs.floor_read.Goals as goal

pub returns-in-Ok : goal.returns-in-Ok
returns-in-Ok c = pair_same (ap told_as (rw c.in-Ok.is at c.read_held.ensures.value)) c.read_held.ensures.room_after

pub returns-in-Err : goal.returns-in-Err
returns-in-Err c =
    pair_same (passed c.refused.type_inv ∙ numbered c.refused.ensures ∙ ap told_as (rw c.in-Err.is at c.read_held.ensures.value))
    c.read_held.ensures.room_after
