-- `desk_writing::put_words` keeps its promise, `room.new ≡ over room.old at (word_column words)`. Assumes nothing.
use Rattle.std.proofs.Common.{◌≡◌, length, get_or}
use Rattle.octets.specs.Octets.{over, octets32}
use Rattle.desk_octets.specs.Columns.{rows}
use Rattle.desk_writing.proofs.put_words.Given as goal

abbrev pub invariant-loop-i : goal.invariant-loop-i
invariant-loop-i l =
    (length l.room ≡ length l.initial.room) × (l.room ≡ over l.initial.room l.at (rows (λ k. octets32 (get_or l.words k 0)) 0 l.i))
