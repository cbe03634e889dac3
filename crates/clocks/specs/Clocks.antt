-- Which clocks a step starts anew, and which it stops (document 01, "The desk"): by the timers that ran before the step, those that run
-- after it, the timer that fired, and whether the floor was given in the step. Each timer is asked by itself. Assumes nothing.
use Rattle.std.specs.Prelude.{ℕ, Bool, true, false, not, ◌&&◌, ◌||◌, eqb, Option, Some, None}
use Rattle.timers.specs.declared.Timer.{Timer}
use Rattle.timers.specs.declared.Timer.TheVariants.{T1, T2, T3, T4, T7, T8, T20}
use Rattle.timers.specs.declared.Running.{Running}
use Rattle.timers.specs.Timers.{runs}

-- the timers for which a test holds
abbrev pub timers_with : (Option Timer → Bool) → Running
timers_with f =
    record {
      t1 = f (Some T1);
      t2 = f (Some T2);
      t3 = f (Some T3);
      t4 = f (Some T4);
      t7 = f (Some T7);
      t8 = f (Some T8);
      t20 = f (Some T20);
    }

-- the number in a timer's name; 0 is no timer's
abbrev pub timer_number : Option Timer → ℕ
timer_number (Some T1) = 1
timer_number (Some T2) = 2
timer_number (Some T3) = 3
timer_number (Some T4) = 4
timer_number (Some T7) = 7
timer_number (Some T8) = 8
timer_number (Some T20) = 20
timer_number None = 0

abbrev pub is_timer : Option Timer → Option Timer → Bool
is_timer a b = eqb (timer_number a) (timer_number b)

-- "Given: .. T1 runs; T20 too .. if out of the line": they run for the new holder then, though they may have run for the one before
abbrev pub runs_for_holder : Option Timer → Bool
runs_for_holder (Some T1) = true
runs_for_holder (Some T2) = false
runs_for_holder (Some T3) = false
runs_for_holder (Some T4) = false
runs_for_holder (Some T7) = false
runs_for_holder (Some T8) = false
runs_for_holder (Some T20) = true
runs_for_holder None = false

-- what has run starts again where the floor was given and it runs for the holder, or where it fired
abbrev pub starts_again : Option Timer → Bool → Option Timer → Bool
starts_again fired given t = (runs_for_holder t && given) || is_timer fired t

-- a timer that runs after a step starts anew if it did not run before, or starts again
abbrev pub is_started : Running → Running → Option Timer → Bool → Option Timer → Bool
is_started before after fired given t = runs after t && (not (runs before t) || starts_again fired given t)

unfoldable pub starts_anew : Running → Running → Option Timer → Bool → Running
starts_anew before after fired given = timers_with (is_started before after fired given)

-- a timer stops if it ran and runs no more
abbrev pub runs_no_more : Running → Running → Option Timer → Bool
runs_no_more before after t = runs before t && not (runs after t)

unfoldable pub stopped_timers : Running → Running → Running
stopped_timers before after = timers_with (runs_no_more before after)
