-- "Each step reports .. four marks: placed (a seat), struck off (a set), ended (a seat), given (a seat, at once or out of the line)"
-- (document 01, "The desk"). What a report's marks say of a seat and what the step did to it are two accounts, and they agree: in every
-- step, of every desk whose line fits, for every seat. The statement here is proved in proofs/, in the file named beside it. Assumes
-- nothing.
use Rattle.std.specs.Prelude.{ℕ, ◌+◌, ◌≤◌, ◌<◌, ◌≡◌, Bool, true, false, eqb, length, get_or, Option, Some, None}
use Rattle.words.specs.Choice.{one}
use Rattle.line.specs.Line.{waiting, is_in}
use Rattle.hall.specs.declared.Hall.{Hall}
use Rattle.steps.specs.declared.Core.{Core}
use Rattle.steps.specs.declared.Given.{Given}
use Rattle.steps.specs.declared.Given.TheVariants.{NotGiven, AtOnce, OutOfLine}
use Rattle.steps.specs.declared.Marks.{Marks}
use Rattle.giving.specs.Floor.{holds}
use Rattle.request.specs.Request.{waits}
use Rattle.events.specs.declared.Desk.{Desk}
use Rattle.history.specs.Doing.{Doing, does}

abbrev pub is_seat : Option ℕ → ℕ → Bool
is_seat None s = false
is_seat (Some t) s = eqb t s

abbrev pub is_given : Given → ℕ → Bool
is_given NotGiven s = false
is_given (AtOnce t) s = eqb t s
is_given (OutOfLine t) s = eqb t s

abbrev pub is_out : Given → ℕ → Bool
is_out NotGiven s = false
is_out (AtOnce t) s = false
is_out (OutOfLine t) s = eqb t s

-- who waited, or was placed, waits now, or was struck off, or was given the floor out of the line
abbrev pub LineCounts : Core → Core → Marks → ℕ → Type 0
LineCounts c d m s =
    one (waits c s) + one (is_seat m.placed s) ≡ one (waits d s) + one (get_or m.struck s false) + one (is_out m.given s)

-- who held the floor, or was given it, holds it now or has ended
abbrev pub FloorCounts : Core → Core → Marks → ℕ → Type 0
FloorCounts c d m s = one (holds c.phase s) + one (is_given m.given s) ≡ one (holds d.phase s) + one (is_seat m.ended s)

-- what the line's account asks of a desk: fifteen places, a limit that they hold, and seats that there are
pub record Fit (c : Core) (h : Hall) : Type 0 where
  pub room : length (waiting c.line) ≤ 15
  pub limit : h.settings.limit ≤ 15
  pub seats : (t : ℕ) → is_in t (waiting c.line) ≡ true → t < 16

-- Both accounts (proofs/Counts): whatever happens to a desk whose line fits, for every seat.
abbrev pub EveryStepCounts : Type 0
EveryStepCounts = (d : Desk) (x : Doing) (s : ℕ) → Fit d.core d.hall →
    LineCounts d.core (does d x).desk.core (does d x).report.marks s
    × FloorCounts d.core (does d x).desk.core (does d x).report.marks s
