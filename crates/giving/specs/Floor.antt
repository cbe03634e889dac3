-- The floor is given, ends, is revoked, by document 01, "The desk". Assumes nothing.
use Rattle.std.specs.Prelude.{ℕ, Bool, true, false, List, [], ◌∷◌, eqb}
use Rattle.line.specs.declared.Entry.{Entry}
use Rattle.line.specs.Line.{waiting, line_of, without}
use Rattle.hall.specs.declared.Hall.{Hall}
use Rattle.hall.specs.Seats.{only, everybody, others}
use Rattle.steps.specs.declared.AlsoRuns.{AlsoRuns}
use Rattle.steps.specs.declared.AlsoRuns.TheVariants.{NoMore, T20}
use Rattle.steps.specs.declared.Phase.{Phase}
use Rattle.steps.specs.declared.Phase.TheVariants.{Stopped, Idle, Taken, Revoking}
use Rattle.steps.specs.declared.Core.{Core}
use Rattle.steps.specs.declared.Kind.TheVariants as say
use Rattle.steps.specs.declared.Given.TheVariants.{AtOnce, OutOfLine}
use Rattle.steps.specs.declared.Step.{Step}
use Rattle.steps.specs.Words.{◌in_phase◌, ◌with_line◌, ◌counting_c7◌, ◌counting_c20◌, next, numbered, ◌⇒◌, done, ◌turns◌, ◌sends◌}
use Rattle.steps.specs.Words.{◌marks_ended◌, ◌marks_given◌}

-- who holds the floor: the holder in Taken and in Revoking
abbrev pub holds : Phase → ℕ → Bool
holds Stopped s = false
holds (Idle t7) s = false
holds (Taken e b) s = eqb e.seat s
holds (Revoking e n) s = eqb e.seat s

-- Given: Granted goes to the new holder and Taken to everybody else; it has the phase Taken, where T1 runs. Out of the line T20 runs beside
-- it, and C20 begins to count.
unfoldable pub given : Core → Hall → Entry → AlsoRuns → Step
given c h e b =
    done (numbered (c in_phase Taken e b))
    sends say.Granted e.priority ⇒ only e.seat
    sends say.Taken e.seat (next c.sequence) ⇒ others h e.seat

unfoldable pub given_at_once : Core → Hall → Entry → Step
given_at_once c h e = given c h e NoMore marks_given AtOnce e.seat

unfoldable pub given_out_of_line : Core → Hall → Entry → Step
given_out_of_line c h e = given (c counting_c20 1) h e T20 marks_given OutOfLine e.seat

-- Granted again, by rule 1 of a request and by T20: at the priority that the floor was given at. Nothing is given anew.
abbrev pub granted_again : Core → Entry → Step
granted_again c e = done c sends say.Granted e.priority ⇒ only e.seat

-- Entering Idle: Idle goes to everybody, both of its timers run, and C7 begins to count.
unfoldable pub enters_idle : Core → Hall → Step
enters_idle c h = done (numbered (c in_phase Idle true counting_c7 1)) sends say.Idle (next c.sequence) ⇒ everybody h

-- The floor ends: the holder has the ended mark. Who stands at the head of the line leaves it and is next, be there company or not; if
-- nobody waits, the call is idle.
unfoldable pub passes_on : Core → Hall → List Entry → Step
passes_on c h [] = enters_idle c h
passes_on c h (e ∷ es) = given_out_of_line (c with_line line_of (without (only e.seat) (e ∷ es))) h e

unfoldable pub floor_ends : Core → Hall → ℕ → Step
floor_ends c h s = passes_on c h (waiting c.line) marks_ended s

-- Entering Revoking: a Revoke to the holder. The phase says the rest: of the timers of Taken only T1 is left, and T3 and T8 run with it.
unfoldable pub revokes : Step → Entry → ℕ → Step
revokes r e cause = r turns Revoking e cause sends say.Revoke cause ⇒ only e.seat
