-- What is known of a packet once all checks are done, by the array of its fields' starts. Assumes nothing.
use Rattle.std.specs.Prelude.{ℕ, List, ◌≡◌, get_or, Result, Ok, Err}
use Rattle.message.specs.Answers.{refused, result, refusal_number}
use Rattle.message.specs.declared.MessageType.{MessageType}
use Rattle.message.specs.declared.Refusal.{Refusal}
use Rattle.field.specs.Fields.{fields_in}
use Rattle.walk.specs.Walk.{no_starts, Reach, Noted}
use Rattle.reading.specs.Reading.{message_at, reading}

-- of a packet that is read its type and the starts of its fields' contents, by which its message is made up; of one that is refused the
-- refusal, and no start
abbrev pub Judges : List ℕ → Result MessageType Refusal → List ℕ → Type 0
Judges s (Err r) starts = (reading s ≡ refused (refusal_number r)) × (starts ≡ no_starts)
Judges s (Ok k) starts =
    (reading s ≡ result (message_at k s (λ i. get_or starts i 0))) × Reach s (λ i. get_or starts i 0) × Noted (fields_in s) starts
