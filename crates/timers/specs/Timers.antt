-- The timers of document 01, "The desk": their numbers, and which run. Assumes nothing.
use Rattle.std.specs.Prelude.{ℕ, Bool, true, false, eqb, Option, Some, None}
use Rattle.words.specs.Choice.{when◌then◌else◌}
use Rattle.steps.specs.declared.AlsoRuns.TheVariants.{NoMore, T2, T20}
use Rattle.steps.specs.declared.Phase.{Phase}
use Rattle.steps.specs.declared.Phase.TheVariants.{Stopped, Idle, Taken, Revoking}
use Rattle.timers.specs.declared.Timer.{Timer}
use Rattle.timers.specs.declared.Timer.TheVariants as timer
use Rattle.timers.specs.declared.Running.{Running}

-- the timer that a number names, if one has it
unfoldable pub timer_named : ℕ → Option Timer
timer_named n =
    when eqb n 1 then Some timer.T1
    else when eqb n 2 then Some timer.T2
    else when eqb n 3 then Some timer.T3
    else when eqb n 4 then Some timer.T4
    else when eqb n 7 then Some timer.T7
    else when eqb n 8 then Some timer.T8
    else when eqb n 20 then Some timer.T20
    else None

-- Which timers run follows from the phase: T4 and perhaps T7 in Idle, T1 and perhaps T2 or T20 in Taken, T1, T3 and T8 in Revoking.
abbrev pub running : Phase → Running
running Stopped = record { t1 = false; t2 = false; t3 = false; t4 = false; t7 = false; t8 = false; t20 = false }
running (Idle t7) = record { t1 = false; t2 = false; t3 = false; t4 = true; t7 = t7; t8 = false; t20 = false }
running (Taken e NoMore) = record { t1 = true; t2 = false; t3 = false; t4 = false; t7 = false; t8 = false; t20 = false }
running (Taken e T2) = record { t1 = true; t2 = true; t3 = false; t4 = false; t7 = false; t8 = false; t20 = false }
running (Taken e T20) = record { t1 = true; t2 = false; t3 = false; t4 = false; t7 = false; t8 = false; t20 = true }
running (Revoking e n) = record { t1 = true; t2 = false; t3 = true; t4 = false; t7 = false; t8 = true; t20 = false }

-- whether this timer runs; what a number names that no timer has never does
abbrev pub runs : Running → Option Timer → Bool
runs r (Some timer.T1) = r.t1
runs r (Some timer.T2) = r.t2
runs r (Some timer.T3) = r.t3
runs r (Some timer.T4) = r.t4
runs r (Some timer.T7) = r.t7
runs r (Some timer.T8) = r.t8
runs r (Some timer.T20) = r.t20
runs r None = false

abbrev pub is_stopped : Phase → Bool
is_stopped Stopped = true
is_stopped (Idle t7) = false
is_stopped (Taken e b) = false
is_stopped (Revoking e n) = false
