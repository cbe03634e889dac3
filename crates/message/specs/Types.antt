-- The types (document 01, "The packet": "The low four bits of the subtype name the type"). Assumes nothing.
use Rattle.std.specs.Prelude.{ℕ, List, [], ◌∷◌, get_or, Option, None, Some}
use Rattle.message.specs.declared.MessageType.{MessageType}
use Rattle.message.specs.declared.MessageType.TheVariants.{Request, Granted, Taken, Deny, Release, Idle, Revoke}
use Rattle.message.specs.declared.MessageType.TheVariants.{QueuePositionRequest}
use Rattle.message.specs.declared.MessageType.TheVariants.{QueuePositionInfo, Ack}

-- the types from 0 on; 7 and all from 11 on are not listed
abbrev pub types : List (Option MessageType)
types =
    Some Request ∷ Some Granted ∷ Some Taken ∷ Some Deny ∷ Some Release ∷ Some Idle ∷ Some Revoke ∷ None
    ∷ Some QueuePositionRequest ∷ Some QueuePositionInfo ∷ Some Ack ∷ []

abbrev pub typed : ℕ → Option MessageType
typed n = get_or types n None

-- the number that names a type
abbrev pub type_number : MessageType → ℕ
type_number Request = 0
type_number Granted = 1
type_number Taken = 2
type_number Deny = 3
type_number Release = 4
type_number Idle = 5
type_number Revoke = 6
type_number QueuePositionRequest = 8
type_number QueuePositionInfo = 9
type_number Ack = 10
