-- An outgoing message as a packet (document 01, "The desk": "As a packet it carries the desk's SSRC, the fields named below, no phrase and
-- no Ack bit"). Assumes nothing.
use Rattle.std.specs.Prelude.{ℕ, false, List, length, Option, Some, None, Result}
use Rattle.message.specs.Answers.{Answer, result}
use Rattle.message.specs.declared.MessageType.{MessageType}
use Rattle.message.specs.declared.MessageType.TheVariants as type
use Rattle.message.specs.declared.Part.{Part}
use Rattle.message.specs.declared.QueueInfo.{QueueInfo}
use Rattle.message.specs.declared.RejectCause.{RejectCause}
use Rattle.message.specs.declared.Message.{Message}
use Rattle.message.specs.declared.Refusal.{Refusal}
use Rattle.writing.specs.Writing.{writing, written, Tells}
use Rattle.hall.specs.declared.Settings.{Settings}
use Rattle.steps.specs.declared.Kind.{Kind}
use Rattle.steps.specs.declared.Kind.TheVariants as say

-- a message with no field but those that are named
abbrev pub carrying : MessageType → ℕ → Option ℕ → Option ℕ → Option RejectCause → Option QueueInfo → Option Part → Option ℕ →
    Option ℕ → Message
carrying k ssrc priority duration cause queue granted permission sequence =
    record {
      kind = k;
      ack = false;
      ssrc = ssrc;
      priority = priority;
      duration = duration;
      cause = cause;
      queue = queue;
      granted = granted;
      permission = permission;
      user = None;
      sequence = sequence;
      source = None;
      message_type = None;
      indicator = None;
      ssrc_field = None;
    }

-- the first octets of the lent source, this many; a cause with no phrase
abbrev pub from_first : ℕ → Part
from_first n = record { from = 0; count = n }

abbrev pub bare_cause : ℕ → RejectCause
bare_cause why = record { cause = why; phrase = from_first 0 }

-- Granted: its priority and the Duration. Taken: the identity of the seat, which is the whole lent source, permission 1, the sequence
-- number. Deny and Revoke: their cause. Idle: the sequence number. Info: place and priority.
unfoldable pub outgoing : Settings → Kind → ℕ → Option Message
outgoing s say.Nothing n = None
outgoing s (say.Granted p) n = Some (carrying type.Granted s.ssrc (Some p) (Some s.duration) None None None None None)
outgoing s (say.Taken seat k) n = Some (carrying type.Taken s.ssrc None None None None (Some (from_first n)) (Some 1) (Some k))
outgoing s (say.Deny why) n = Some (carrying type.Deny s.ssrc None None (Some (bare_cause why)) None None None None)
outgoing s (say.Idle k) n = Some (carrying type.Idle s.ssrc None None None None None None (Some k))
outgoing s (say.Revoke why) n = Some (carrying type.Revoke s.ssrc None None (Some (bare_cause why)) None None None None)
outgoing s (say.Info place priority) n =
    Some (carrying type.QueuePositionInfo s.ssrc None None None (Some (record { place = place; priority = priority })) None None None)

-- what sending answers, and what it leaves in the room: nothing is written for silence
abbrev pub sending : Option Message → List ℕ → ℕ → Answer ℕ
sending None identity room = result 0
sending (Some m) identity room = writing m identity room

abbrev pub sent : Option Message → List ℕ → List ℕ → List ℕ
sent None identity room = room
sent (Some m) identity room = written m identity room

abbrev pub Sends : Settings → Kind → List ℕ → List ℕ → Result ℕ Refusal → List ℕ → Type 0
Sends s k identity room answer after =
    Tells (sending (outgoing s k (length identity)) identity (length room)) (sent (outgoing s k (length identity)) identity room) answer
    after
