-- Which clocks a C program starts anew and stops after a step (clocks/specs/Clocks), between sets of timers as numbers, and with the report
-- of the step for whether the floor was given. Assumes nothing.
use Rattle.std.specs.Prelude.{ℕ, ◌+◌, ◌/◌, ◌%◌, Bool, not, ◌&&◌, List, eqb, leb, length, ℤ}
use Rattle.words.specs.Choice.{when◌then◌else◌}
use Rattle.octets.specs.Octets.{nth_octet}
use Rattle.message.specs.Answers.{refused, result}
use Rattle.timers.specs.declared.Running.{Running}
use Rattle.timers.specs.Timers.{timer_named}
use Rattle.clocks.specs.Clocks.{starts_anew, stopped_timers}
use Rattle.report_octets.specs.Places.{report_size, how_place}
use Rattle.signed.specs.Signed.{signed}

-- bit 1 for T1, .., bit 20 for T20
abbrev pub bit : Bool → ℕ → ℕ
bit b n = when b then n else 0

unfoldable pub timer_set : Running → ℕ
timer_set t = bit t.t1 2 + bit t.t2 4 + bit t.t3 8 + bit t.t4 16 + bit t.t7 128 + bit t.t8 256 + bit t.t20 1048576

-- the timers that a set has; no other bit counts
abbrev pub has_bit : ℕ → ℕ → Bool
has_bit set weight = eqb (set / weight % 2) 1

unfoldable pub running_in : ℕ → Running
running_in set =
    record {
      t1 = has_bit set 2;
      t2 = has_bit set 4;
      t3 = has_bit set 8;
      t4 = has_bit set 16;
      t7 = has_bit set 128;
      t8 = has_bit set 256;
      t20 = has_bit set 1048576;
    }

-- how the floor was given in a step, by the report's octet: 0 for not given, 1 at once, 2 out of the line
abbrev pub how_given : List ℕ → ℕ
how_given r = nth_octet r how_place

abbrev pub was_given : List ℕ → Bool
was_given r = not (eqb (how_given r) 0)

-- 12: no report has this length, or this octet
abbrev pub says_how_given : List ℕ → Bool
says_how_given r = eqb (length r) report_size && leb (how_given r) 2

abbrev pub set_started : ℕ → ℕ → ℕ → Bool → ℤ
set_started before after fired given =
    signed (result (timer_set (starts_anew (running_in before) (running_in after) (timer_named fired) given)))

unfoldable pub starts_on : ℕ → ℕ → ℕ → List ℕ → ℤ
starts_on before after fired r = when says_how_given r then set_started before after fired (was_given r) else signed (refused 12)

abbrev pub stops_on : ℕ → ℕ → ℤ
stops_on before after = signed (result (timer_set (stopped_timers (running_in before) (running_in after))))
