-- A packet that is written has at most 440 octets, so that a signed number of 32 bits holds its length. Assumes nothing.
use Prim.Native.Nat.{ℕ, ◌≤◌}
use mathlib.Core.List.{List}
use native.Mathlib.Omega.{arith}
use lib.Dec.{ltb}
use lib.ListN.{length}
use Rattle.header.specs.Header.{longest_packet}
use Rattle.words.specs.Choice.{when◌then◌else◌, by_test}
use Rattle.message.specs.Message.{said}
use Rattle.message.specs.declared.Message.{Message}
use Rattle.writing.specs.Wire.{wire}
use Rattle.writing.specs.Writing.{writing}
use Rattle.readable.specs.Readable.{readable}
use Rattle.writing.proofs.Lengths.{wire_whole}
use Rattle.outgoing.specs.Outgoing.{sending}
use Rattle.std.specs.Prelude.{Option, Some, None}
use Rattle.message_octets.specs.Held.{writing_of}
use Rattle.desk_looking.specs.Looking.{size_in}

writing_short : (m : Message) (src : List ℕ) (room : ℕ) → size_in (writing m src room) ≤ longest_packet
unfolding writing when◌then◌else◌
writing_short m src room =
    by_test (readable m src)
    (λ r. by_test (ltb room (length (wire (said m src)))) (λ t. rw (r, t) (omega arith))
    (λ t. rw (r, t) (omega (arith, (wire_whole m src r).most))))
    (λ r. rw r (omega arith))

pub sending_short : (o : Option Message) (src : List ℕ) (room : ℕ) → size_in (sending o src room) ≤ longest_packet
sending_short None src room = omega arith
sending_short (Some m) src room = writing_short m src room

pub held_short : (h : Option Message) (src : List ℕ) (room : ℕ) → size_in (writing_of h src room) ≤ longest_packet
held_short None src room = omega arith
held_short (Some m) src room = writing_short m src room
