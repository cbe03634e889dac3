-- What a message is (document 01, "The packet": "A message is its type, Ack bit, SSRC and the table's fields it has, without spare,
-- padding or skipped fields"). The struct `Message` holds one beside a source; `said` is the message that it holds, if its parts lie in
-- that source (`lies`): else it holds none, and the writer answers 12. Assumes nothing.
use Rattle.std.specs.Prelude.{ℕ, ◌+◌, Bool, true, false, ◌&&◌, List, [], ◌∷◌, ◌++◌, eqb, leb, length, Option, None, Some, is_some}
use Rattle.std.specs.Prelude.{option_map}
use Rattle.words.specs.Choice.{when◌then◌else◌}
use Rattle.octets.specs.Octets.{octets16, octets32, part}
use Rattle.message.specs.declared.MessageType.{MessageType}
use Rattle.message.specs.declared.MessageType.TheVariants.{Request, Granted, Taken, Deny, Release, Idle, Revoke}
use Rattle.message.specs.declared.MessageType.TheVariants.{QueuePositionRequest}
use Rattle.message.specs.declared.MessageType.TheVariants.{QueuePositionInfo, Ack}
use Rattle.message.specs.declared.Part.{Part}
use Rattle.message.specs.declared.QueueInfo.{QueueInfo}
use Rattle.message.specs.declared.RejectCause.{RejectCause}
use Rattle.message.specs.declared.Message.{Message}

-- a field of the table, by its ID, and what a message has there: nothing, or its content as octets without the spare ones
pub record Field : Type 0 where
  pub id : ℕ
  pub content : Option (List ℕ)

abbrev pub field : ℕ → Option (List ℕ) → Field
field i o = record { id = i; content = o }

pub record Said : Type 0 where
  pub kind : MessageType
  pub ack : Bool
  pub ssrc : ℕ
  pub fields : List Field

abbrev pub of_octet : Option ℕ → Option (List ℕ)
of_octet o = option_map (λ n. n ∷ []) o

abbrev pub of_word : Option ℕ → Option (List ℕ)
of_word o = option_map octets16 o

abbrev pub of_number : Option ℕ → Option (List ℕ)
of_number o = option_map octets32 o

abbrev pub of_queue : Option QueueInfo → Option (List ℕ)
of_queue o = option_map (λ q. q.place ∷ q.priority ∷ []) o

abbrev pub of_part : List ℕ → Option Part → Option (List ℕ)
of_part src o = option_map (λ p. part src p.from p.count) o

abbrev pub of_cause : List ℕ → Option RejectCause → Option (List ℕ)
of_cause src o = option_map (λ c. octets16 c.cause ++ part src c.phrase.from c.phrase.count) o

-- the fields in the table's order
abbrev pub fields_of : Message → List ℕ → List Field
fields_of m src =
    field 0 (of_octet m.priority)
    ∷ field 1 (of_word m.duration)
    ∷ field 2 (of_cause src m.cause)
    ∷ field 3 (of_queue m.queue)
    ∷ field 4 (of_part src m.granted)
    ∷ field 5 (of_word m.permission)
    ∷ field 6 (of_part src m.user)
    ∷ field 8 (of_word m.sequence)
    ∷ field 10 (of_word m.source)
    ∷ field 12 (of_octet m.message_type)
    ∷ field 13 (of_word m.indicator)
    ∷ field 14 (of_number m.ssrc_field)
    ∷ []

unfoldable pub said : Message → List ℕ → Said
said m src = record { kind = m.kind; ack = m.ack; ssrc = m.ssrc; fields = fields_of m src }

-- how many octets of the source a field takes
abbrev pub count_of : Option Part → ℕ
count_of None = 0
count_of (Some p) = p.count

abbrev pub phrase_count : Option RejectCause → ℕ
phrase_count None = 0
phrase_count (Some c) = c.phrase.count

-- the identities and the phrase lie in the source
abbrev pub part_lies : List ℕ → Option Part → Bool
part_lies src None = true
part_lies src (Some p) = leb (p.from + p.count) (length src)

abbrev pub phrase_lies : List ℕ → Option RejectCause → Bool
phrase_lies src None = true
phrase_lies src (Some c) = leb (c.phrase.from + c.phrase.count) (length src)

unfoldable pub lies : Message → List ℕ → Bool
lies m src = part_lies src m.granted && part_lies src m.user && phrase_lies src m.cause

-- "Required: Granted 1; Taken 4; Deny and Revoke 2; Idle 8; Queue Position Info 3; Ack 10 and 12"
abbrev pub required : MessageType → List ℕ
required Request = []
required Granted = 1 ∷ []
required Taken = 4 ∷ []
required Deny = 2 ∷ []
required Release = []
required Idle = 8 ∷ []
required Revoke = 2 ∷ []
required QueuePositionRequest = []
required QueuePositionInfo = 3 ∷ []
required Ack = 10 ∷ 12 ∷ []

abbrev pub is_there : Option (List ℕ) → Bool
is_there content = is_some content

-- whether the fields have this ID; whether all of these are given
unfoldable pub has : List Field → ℕ → Bool
has [] i = false
has (f ∷ fs) i = when eqb i f.id then is_there f.content else has fs i

unfoldable pub has_all : (ℕ → Bool) → List ℕ → Bool
has_all given [] = true
has_all given (i ∷ is) = given i && has_all given is

-- no required field is missing
unfoldable pub complete : Said → Bool
complete m = has_all (has m.fields) (required m.kind)
