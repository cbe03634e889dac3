-- `message_writing::Held::has_unlisted` keeps its promise: whether a bit is set for an ID that is not in the table, 7, 9, 11 or 15. Assumes
-- nothing.
use Rattle.message_octets.specs.Held.{unlisted_field}
use Rattle.message_writing.proofs.Held.has_unlisted.Goals as goal

pub returns : goal.returns
unfolding unlisted_field
returns c =
    rw (c.is_set.ensures, c.is_set-2.ensures, c.is_set-3.ensures, c.is_set-4.ensures)
