-- What is told of the required fields is what is so of them: then the code's answer is whether all that a type requires are given.
-- Assumes nothing.
use Prim.Native.Nat.{ℕ}
use mathlib.Core.Bool.{Bool}
use mathlib.Core.Path.{◌≡◌, refl}
use Rattle.words.specs.Choice.{when◌then◌else◌}
use Rattle.message.specs.Message.{required, has_all}
use Rattle.message.specs.Asked.{has_id}
use Rattle.message.specs.declared.Has.{Has}
use Rattle.message.specs.declared.MessageType.{MessageType}
use Rattle.message.specs.declared.MessageType.TheVariants.{Request, Granted, Taken, Deny, Release, Idle, Revoke}
use Rattle.message.specs.declared.MessageType.TheVariants.{QueuePositionRequest}
use Rattle.message.specs.declared.MessageType.TheVariants.{QueuePositionInfo, Ack}

-- what a proof about the required fields opens
unfoldable pub requiring : Type 0
unfolding has_all has_id when◌then◌else◌
requiring = ℕ

-- each answer is that of its field
pub record Tells (h : Has) (f : ℕ → Bool) : Type 0 where
  pub duration : h.duration ≡ f 1
  pub cause : h.cause ≡ f 2
  pub queue : h.queue ≡ f 3
  pub granted : h.granted ≡ f 4
  pub sequence : h.sequence ≡ f 8
  pub source : h.source ≡ f 10
  pub message_type : h.message_type ≡ f 12

pub required_by : (h : Has) (f : ℕ → Bool) → Tells h f → (k : MessageType) → has_all (has_id h) (required k) ≡ has_all f (required k)
unfolding has_all has_id when◌then◌else◌
required_by h f t Request = refl
required_by h f t Granted = rw t.duration
required_by h f t Taken = rw t.granted
required_by h f t Deny = rw t.cause
required_by h f t Release = refl
required_by h f t Idle = rw t.sequence
required_by h f t Revoke = rw t.cause
required_by h f t QueuePositionRequest = refl
required_by h f t QueuePositionInfo = rw t.queue
required_by h f t Ack = rw (t.source, t.message_type)
