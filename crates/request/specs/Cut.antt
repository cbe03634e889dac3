-- Definitions that are here only because the code is cut into functions: what each of these answers, where no sentence of document 01 says
-- it by itself. The rules are Request's, and the promise of `request_floor` cites that page alone. Assumes nothing.
use Rattle.std.specs.Prelude.{ℕ, Bool, not, ◌&&◌, Option, Some, None}
use Rattle.words.specs.Choice.{when◌then◌else◌}
use Rattle.line.specs.declared.Line.{Line}
use Rattle.line.specs.Line.{entry_of}
use Rattle.hall.specs.declared.Hall.{Hall}
use Rattle.hall.specs.Seats.{only, queues}
use Rattle.steps.specs.declared.Core.{Core}
use Rattle.steps.specs.declared.Sending.{Sending}
use Rattle.steps.specs.declared.Step.{Step}
use Rattle.steps.specs.Words.{◌⇒◌, silence}
use Rattle.steps.specs.Causes.{another_has_permission, queue_full}
use Rattle.request.specs.Request.{waits, full, info_of, stays_or_moves, comes_in, asks_again, placed, rule5}

-- what Info is to an asker, with or without queueing
abbrev pub info_for : Line → ℕ → Bool → Sending
info_for l s queueing = when queueing then info_of l s ⇒ only s else silence

-- the line after a request of one who waits, and of a newcomer that may go in; and the mark
abbrev pub line_after : Line → Bool → ℕ → ℕ → Line
line_after l waiting-already s p = when waiting-already then stays_or_moves l s p else comes_in l (entry_of s p)

abbrev pub mark_after : Bool → ℕ → Option ℕ
mark_after waiting-already s = when waiting-already then None else Some s

-- rules 4 and 5 go on alike
abbrev pub stands : Core → Hall → ℕ → ℕ → Bool → Bool → Step
stands c h s p press waiting-already = when waiting-already then asks_again c h s p press else placed c h s p press

-- the cause by which a newcomer is denied; none for who waits
abbrev pub refusal_of : Core → Hall → ℕ → Bool → Bool → Option ℕ
refusal_of c h s press waiting-already =
    when waiting-already then None
    else when not press && not (queues h s) then Some another_has_permission
    else when full c h then Some queue_full
    else None

-- rules 4 to 6
abbrev pub asks : Core → Hall → ℕ → ℕ → Bool → Step
asks c h s p press = when waits c s then asks_again c h s p press else rule5 c h s p press
