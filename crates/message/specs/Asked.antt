-- How the code asks for the fields that some type requires: it is told of each whether the message has it. What is required stands in
-- Message. Assumes nothing.
use Rattle.std.specs.Prelude.{ℕ, Bool, false, eqb}
use Rattle.words.specs.Choice.{when◌then◌else◌}
use Rattle.message.specs.declared.Has.{Has}

unfoldable pub has_id : Has → ℕ → Bool
has_id h i =
    when eqb i 1 then h.duration
    else when eqb i 2 then h.cause
    else when eqb i 3 then h.queue
    else when eqb i 4 then h.granted
    else when eqb i 8 then h.sequence
    else when eqb i 10 then h.source
    else when eqb i 12 then h.message_type
    else false
