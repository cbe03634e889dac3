-- The laws of each timer. Assumes nothing.
use Rattle.std.proofs.Common.{Option, Some, None}
use mathlib.Core.Bool.{Bool, true, false, not, ◌&&◌, ◌||◌}
use mathlib.Core.Path.{◌≡◌, refl, sym, ◌∙◌}
use Rattle.words.specs.Below.{and_left, and_right}
use Rattle.timers.specs.declared.Timer.{Timer}
use Rattle.timers.specs.declared.Timer.TheVariants.{T1, T2, T3, T4, T7, T8, T20}
use Rattle.timers.specs.declared.Running.{Running}
use Rattle.timers.specs.Timers.{runs}
use Rattle.clocks.specs.Clocks.{is_timer, runs_for_holder, starts_again, is_started, runs_no_more, starts_anew, stopped_timers}
use Rattle.clocks_laws.specs.Clockwork.{RunsOn, ComesToRun, FiresAndRuns, RunsForHolder}
use Rattle.clocks_laws.specs.Clockwork.{StartedRuns, StoppedRunsNot, NotBoth, ClocksFollow}

-- each timer's answer is its own
module _ (before after : Running) where
  started : (fired : Option Timer) (given : Bool) (t : Option Timer) →
      runs (starts_anew before after fired given) t ≡ is_started before after fired given t
  unfolding starts_anew
  started fired given (Some T1) = refl
  started fired given (Some T2) = refl
  started fired given (Some T3) = refl
  started fired given (Some T4) = refl
  started fired given (Some T7) = refl
  started fired given (Some T8) = refl
  started fired given (Some T20) = refl
  started fired given None = refl

  ended : (t : Option Timer) → runs (stopped_timers before after) t ≡ runs_no_more before after t
  unfolding stopped_timers
  ended (Some T1) = refl
  ended (Some T2) = refl
  ended (Some T3) = refl
  ended (Some T4) = refl
  ended (Some T7) = refl
  ended (Some T8) = refl
  ended (Some T20) = refl
  ended None = refl

itself : (t : Option Timer) → is_timer t t ≡ true
itself (Some T1) = refl
itself (Some T2) = refl
itself (Some T3) = refl
itself (Some T4) = refl
itself (Some T7) = refl
itself (Some T8) = refl
itself (Some T20) = refl
itself None = refl

-- tests by their values
nothing_more : (a x : Bool) → (a && (false || ((x && false) || false))) ≡ false
nothing_more true true = refl
nothing_more true false = refl
nothing_more false x = refl

the_last : (b x : Bool) → (b || (x || true)) ≡ true
the_last true x = refl
the_last false true = refl
the_last false false = refl

the_middle : (b x : Bool) → (b || (true || x)) ≡ true
the_middle true x = refl
the_middle false x = refl

no_more : (a : Bool) → not a ≡ true → a ≡ false
no_more true e = sym e
no_more false e = refl

and-false : (b : Bool) → (b && false) ≡ false
and-false true = refl
and-false false = refl

follows : (a b x : Bool) → a ≡ ((b && not (b && not a)) || (a && (not b || x)))
follows true true x = refl
follows true false x = refl
follows false true x = refl
follows false false x = refl

pub runs_on : RunsOn
runs_on before after fired t b f =
    started before after fired _ t ∙ rw (b, f) (nothing_more (runs after t) (runs_for_holder t))

pub comes-to-run : ComesToRun
comes-to-run before after fired t given b a = rw (started before after fired given t, b, a)

pub fires_and_runs : FiresAndRuns
fires_and_runs before after fired given a =
    rw (started before after fired given fired, a, itself fired) (the_last (not (runs before fired)) (runs_for_holder fired && given))

pub runs_for_holder_lem : RunsForHolder
runs_for_holder_lem before after fired t h a =
    rw (started before after fired true t, a, h) (the_middle (not (runs before t)) (is_timer fired t))

pub started_runs : StartedRuns
started_runs before after fired t given s =
    and_left (runs after t) (not (runs before t) || starts_again fired given t) (sym (started before after fired given t) ∙ s)

pub stopped_runs_not : StoppedRunsNot
stopped_runs_not before after t s =
    no_more (runs after t) (and_right (runs before t) (not (runs after t)) (sym (ended before after t) ∙ s))

pub not_both : NotBoth
not_both before after fired t given s =
    rw (ended before after t, started_runs before after fired t given s) (and-false (runs before t))

pub clocks_follow : ClocksFollow
clocks_follow before after fired t given =
    rw (ended before after t, started before after fired given t) (follows (runs after t) (runs before t) (starts_again fired given t))
