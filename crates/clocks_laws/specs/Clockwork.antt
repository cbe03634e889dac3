-- What the rule for clocks keeps (clocks/specs/Clocks), of any sets of timers and so of every step; that C programs are told it, by numbers
-- and the octets of a report (clocks_looking/specs/ClockSets); and what it says of a step in which the floor was given. Each statement is
-- proved in proofs/, in the file named beside it. Assumes nothing.
use Rattle.std.specs.Prelude.{ℕ, Bool, true, false, not, ◌&&◌, ◌||◌, ◌≡◌, Option, Some, pos}
use Rattle.steps.specs.declared.Given.{Given}
use Rattle.steps.specs.declared.Given.TheVariants.{NotGiven, AtOnce, OutOfLine}
use Rattle.steps.specs.declared.Report.{Report}
use Rattle.timers.specs.declared.Timer.{Timer}
use Rattle.timers.specs.declared.Timer.TheVariants.{T1}
use Rattle.timers.specs.declared.Running.{Running}
use Rattle.timers.specs.Timers.{timer_named, running, runs}
use Rattle.clocks.specs.Clocks.{is_timer, runs_for_holder, starts_anew, stopped_timers}
use Rattle.events.specs.declared.Desk.{Desk}
use Rattle.report_octets.specs.Report.{octets_of_report}
use Rattle.clocks_looking.specs.ClockSets.{timer_set}
use Rattle.clocks_looking.specs.ClockSets.{running_in, starts_on, stops_on}
use Rattle.history.specs.Doing.{Doing, does}
use Rattle.marks.specs.Marks.{Fit}

-- OF EACH TIMER (proofs/Each), by the timers that ran before a step and that run after it

-- what runs on and did not fire is left as it is, unless the floor was given
abbrev pub RunsOn : Type 0
RunsOn = (before after : Running) (fired t : Option Timer) → runs before t ≡ true → is_timer fired t ≡ false →
    runs (starts_anew before after fired false) t ≡ false

-- what did not run and runs is started
abbrev pub ComesToRun : Type 0
ComesToRun = (before after : Running) (fired t : Option Timer) (given : Bool) → runs before t ≡ false → runs after t ≡ true →
    runs (starts_anew before after fired given) t ≡ true

-- what fired and still runs is started
abbrev pub FiresAndRuns : Type 0
FiresAndRuns = (before after : Running) (fired : Option Timer) (given : Bool) → runs after fired ≡ true →
    runs (starts_anew before after fired given) fired ≡ true

-- where the floor was given, what runs for the holder is started
abbrev pub RunsForHolder : Type 0
RunsForHolder = (before after : Running) (fired t : Option Timer) → runs_for_holder t ≡ true → runs after t ≡ true →
    runs (starts_anew before after fired true) t ≡ true

-- what is started runs, and what is stopped does not: nothing is both
abbrev pub StartedRuns : Type 0
StartedRuns = (before after : Running) (fired t : Option Timer) (given : Bool) → runs (starts_anew before after fired given) t ≡ true →
    runs after t ≡ true

abbrev pub StoppedRunsNot : Type 0
StoppedRunsNot = (before after : Running) (t : Option Timer) → runs (stopped_timers before after) t ≡ true → runs after t ≡ false

abbrev pub NotBoth : Type 0
NotBoth = (before after : Running) (fired t : Option Timer) (given : Bool) → runs (starts_anew before after fired given) t ≡ true →
    runs (stopped_timers before after) t ≡ false

-- who stops and starts these has those clocks running that the desk has: all that ran and were not stopped, and all that were started
abbrev pub ClocksFollow : Type 0
ClocksFollow = (before after : Running) (fired t : Option Timer) (given : Bool) →
    runs after t ≡ ((runs before t && not (runs (stopped_timers before after) t)) || runs (starts_anew before after fired given) t)

-- AS C PROGRAMS ARE TOLD (proofs/Told)

-- a set of timers reads back from its number
abbrev pub SetBack : Type 0
SetBack = (t : Running) → running_in (timer_set t) ≡ t

abbrev pub someone_given : Given → Bool
someone_given NotGiven = false
someone_given (AtOnce s) = true
someone_given (OutOfLine s) = true

-- the answers, for the sets that the desk says and the octets of a report: no refusal, and the rule's own sets
abbrev pub StartsTold : Type 0
StartsTold = (before after : Running) (fired : ℕ) (r : Report) →
    starts_on (timer_set before) (timer_set after) fired (octets_of_report r)
    ≡ pos (timer_set (starts_anew before after (timer_named fired) (someone_given r.marks.given)))

abbrev pub StopsTold : Type 0
StopsTold = (before after : Running) → stops_on (timer_set before) (timer_set after) ≡ pos (timer_set (stopped_timers before after))

-- OF A STEP (proofs/Floor)

-- where the floor was given, whatever happened, T1 starts anew
abbrev pub GivenStartsT1 : Type 0
GivenStartsT1 = (d : Desk) (x : Doing) (fired : Option Timer) → Fit d.core d.hall → someone_given (does d x).report.marks.given ≡ true →
    runs (starts_anew (running d.core.phase) (running (does d x).desk.core.phase) fired true) (Some T1) ≡ true
