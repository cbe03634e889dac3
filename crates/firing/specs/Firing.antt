-- The timers of document 01, "The desk": what happens when one fires; and Stop, which T4 is as. Assumes nothing.
use Rattle.std.specs.Prelude.{◌+◌, false, [], ltb, Option, Some, None}
use Rattle.words.specs.Choice.{when◌then◌else◌}
use Rattle.line.specs.declared.Entry.{Entry}
use Rattle.line.specs.Line.{waiting, line_of, seat_set}
use Rattle.hall.specs.declared.Hall.{Hall}
use Rattle.hall.specs.declared.Refusal.TheVariants.{CallStopped, NotExpected}
use Rattle.hall.specs.Seats.{only, everybody}
use Rattle.steps.specs.declared.Phase.{Phase}
use Rattle.steps.specs.declared.Phase.TheVariants.{Stopped, Idle, Taken, Revoking}
use Rattle.steps.specs.declared.Core.{Core}
use Rattle.steps.specs.declared.Kind.TheVariants as say
use Rattle.steps.specs.declared.Step.{Step}
use Rattle.steps.specs.Words.{◌in_phase◌, ◌with_line◌, ◌counting_c7◌, ◌counting_c20◌, next, numbered, ◌⇒◌, done, refused, ◌sends◌}
use Rattle.steps.specs.Words.{◌marks_struck◌, ◌marks_ended◌}
use Rattle.steps.specs.Causes.{media_burst_too_long}
use Rattle.giving.specs.Floor.{floor_ends, revokes, granted_again}
use Rattle.timers.specs.declared.Timer.{Timer}
use Rattle.timers.specs.declared.Timer.TheVariants as timer
use Rattle.timers.specs.Timers.{running, runs, is_stopped}

-- Stop: whoever holds the floor has ended, the whole line is struck off, nothing is sent, and no timer runs any more.
unfoldable pub halted : Core → Step
halted c = done (c in_phase Stopped with_line line_of []) marks_struck seat_set (waiting c.line)

unfoldable pub stops : Core → Phase → Step
stops c Stopped = refused c CallStopped
stops c (Idle t7) = halted c
stops c (Taken e b) = halted c marks_ended e.seat
stops c (Revoking e n) = halted c marks_ended e.seat

-- T1 and T3 end the holder's floor.
unfoldable pub ends_in : Core → Hall → Phase → Step
ends_in c h (Taken e b) = floor_ends c h e.seat
ends_in c h (Revoking e n) = floor_ends c h e.seat
ends_in c h (Idle t7) = refused c NotExpected
ends_in c h Stopped = refused c NotExpected

-- T2: the holder talked too long, Revoke #2.
unfoldable pub revokes_in : Core → Phase → Step
revokes_in c (Taken e b) = revokes (done c) e media_burst_too_long
revokes_in c (Revoking e n) = refused c NotExpected
revokes_in c (Idle t7) = refused c NotExpected
revokes_in c Stopped = refused c NotExpected

-- T7 sends Idle once more and C7 counts it, until C7 is at its limit: then T7 stops, and T4 runs on alone.
unfoldable pub idle_again : Core → Hall → Step
idle_again c h =
    when ltb c.c7 h.settings.c7 then done (numbered (c counting_c7 (c.c7 + 1))) sends say.Idle (next c.sequence) ⇒ everybody h
    else done (c in_phase Idle false)

-- T8 repeats the Revoke, with the cause that it had.
unfoldable pub revokes_again : Core → Phase → Step
revokes_again c (Revoking e n) = done c sends say.Revoke n ⇒ only e.seat
revokes_again c (Taken e b) = refused c NotExpected
revokes_again c (Idle t7) = refused c NotExpected
revokes_again c Stopped = refused c NotExpected

-- T20 sends Granted once more, as rule 1 does, and C20 counts it, until C20 is at its limit: then the floor ends.
unfoldable pub grants_or_ends : Core → Hall → Entry → Step
grants_or_ends c h e = when ltb c.c20 h.settings.c20 then granted_again (c counting_c20 (c.c20 + 1)) e else floor_ends c h e.seat

unfoldable pub grants_again : Core → Hall → Phase → Step
grants_again c h (Taken e b) = grants_or_ends c h e
grants_again c h (Revoking e n) = refused c NotExpected
grants_again c h (Idle t7) = refused c NotExpected
grants_again c h Stopped = refused c NotExpected

-- a timer that runs fires; the phases in which it does not run are refused above
unfoldable pub fires : Core → Hall → Option Timer → Step
fires c h (Some timer.T1) = ends_in c h c.phase
fires c h (Some timer.T2) = revokes_in c c.phase
fires c h (Some timer.T3) = ends_in c h c.phase
fires c h (Some timer.T4) = stops c c.phase
fires c h (Some timer.T7) = idle_again c h
fires c h (Some timer.T8) = revokes_again c c.phase
fires c h (Some timer.T20) = grants_again c h c.phase
fires c h None = refused c NotExpected

-- In a stopped call every timer is refused by 21; in a running one, those that do not run by 23.
unfoldable pub expires : Core → Hall → Option Timer → Step
expires c h t =
    when is_stopped c.phase then refused c CallStopped
    else when runs (running c.phase) t then fires c h t
    else refused c NotExpected
