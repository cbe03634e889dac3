-- What the desk sends reads back (document 01, "The desk": an outgoing message as a packet). Assumes nothing.
use Rattle.std.specs.Prelude.{ℕ, ◌≤◌, true, List, ◌≡◌, length, Some}
use Rattle.message.specs.Message.{said}
use Rattle.message.specs.declared.Message.{Message}
use Rattle.writing.specs.Wire.{wire}
use Rattle.readable.specs.Readable.{readable}
use Rattle.packet_laws.specs.Again.{ReadsAs}
use Rattle.hall.specs.declared.Settings.{Settings}
use Rattle.steps.specs.declared.Kind.{Kind}
use Rattle.outgoing.specs.Outgoing.{outgoing}

-- Every message of the desk can be written, and its octets read back as that message (proofs/Back): the seat's identity has 1 to 62 octets,
-- as join asks.
pub record ReadsBack (m : Message) (identity : List ℕ) : Type 0 where
  pub accepted : readable m identity ≡ true
  pub reads : ReadsAs (wire (said m identity)) (said m identity)

abbrev pub OutgoingReadsBack : Type 0
OutgoingReadsBack =
    (s : Settings) (k : Kind) (identity : List ℕ) (m : Message) → 1 ≤ length identity → length identity ≤ 62
    → outgoing s k (length identity) ≡ Some m → ReadsBack m identity
