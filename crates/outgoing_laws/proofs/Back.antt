-- Every message of the desk is one that a reader accepts, so its octets read back as that message (specs/ReadsBack: OutgoingReadsBack).
-- Assumes nothing.
use Prim.Native.Nat.{ℕ, ◌+◌, ◌≤◌, zero-le}
use native.Mathlib.Nat.{add-zero}
use native.Mathlib.Omega.{arith}
use mathlib.Core.Bool.{true}
use mathlib.Core.List.{List}
use mathlib.Core.Path.{◌≡◌, refl, subst}
use lib.ListN.{length}
use borrow.Author.Tests.{le-leb, le-ltb}
use Rattle.words.specs.Choice.{when◌then◌else◌}
use Rattle.octets.specs.Octets.{be16, octets16, part}
use Rattle.octets.proofs.Over.{length_part}
use Rattle.message.specs.Table.{row_in, against, at_fault}
use Rattle.message.specs.Message.{said, has, has_all, complete, lies}
use Rattle.message.specs.declared.MessageType.{MessageType}
use Rattle.message.specs.declared.MessageType.TheVariants as type
use Rattle.std.specs.Prelude.{Option, Some, None}
use Rattle.message.specs.declared.Message.{Message}
use Rattle.readable.specs.Readable.{all_fit, readable}
use Rattle.packet_laws.proofs.Back.{read_back}
use Rattle.hall.specs.declared.Settings.{Settings}
use Rattle.steps.specs.declared.Kind.{Kind}
use Rattle.steps.specs.declared.Kind.TheVariants as say
use Rattle.outgoing.specs.Outgoing.{carrying, bare_cause, outgoing}
use Rattle.outgoing_laws.specs.ReadsBack.{OutgoingReadsBack}

abbrev Accepted : List ℕ → Option Message → Type 0
Accepted identity None = Unit {0}
Accepted identity (Some m) = readable m identity ≡ true

-- the identity of Taken is the whole source, and of a length that the table has
whole_length : (identity : List ℕ) → length (part identity 0 (length identity)) ≡ length identity
whole_length identity = length_part identity 0 (length identity) (omega arith)

-- a cause with no phrase
abbrev causing : MessageType → ℕ → ℕ → Message
causing k ssrc why = carrying k ssrc None None (Some (bare_cause why)) None None None None

caused : (ssrc why : ℕ) (identity : List ℕ) →
    (readable (causing type.Deny ssrc why) identity ≡ true) × (readable (causing type.Revoke ssrc why) identity ≡ true)
unfolding readable lies all_fit complete said has has_all row_in against at_fault be16 octets16 part when◌then◌else◌
caused ssrc why identity = (rw (le-leb 0 (length identity) zero-le), rw (le-leb 0 (length identity) zero-le))

accepts : (s : Settings) (k : Kind) (identity : List ℕ) → 1 ≤ length identity → length identity ≤ 62 →
    Accepted identity (outgoing s k (length identity))
unfolding outgoing readable lies all_fit complete said has has_all row_in against at_fault be16 octets16 when◌then◌else◌
accepts s say.Nothing identity h k = tt
accepts s (say.Granted p) identity h k = refl
accepts s (say.Taken seat n) identity h k =
    rw (
      le-leb (0 + length identity) (length identity) (omega arith),
      whole_length identity,
      add-zero,
      le-ltb (length identity) 1 h,
      le-ltb 62 (length identity) k,
    )
accepts s (say.Deny why) identity h k = (caused s.ssrc why identity).0
accepts s (say.Idle n) identity h k = refl
accepts s (say.Revoke why) identity h k = (caused s.ssrc why identity).1
accepts s (say.Info place priority) identity h k = refl

pub outgoing_reads_back : OutgoingReadsBack
outgoing_reads_back s k identity m h l e =
    let a : readable m identity ≡ true = subst (Accepted identity) e (accepts s k identity h l) in
    record { accepted = a; reads = read_back m identity a }
