-- "every desk that steps can reach from a fresh one" (document 01, "The desk"): a fresh desk is sound, whatever happens keeps it so, and at
-- every such desk the marks are what the line and the holder did. Each statement here is proved in proofs/Reach. Assumes nothing.
use Rattle.std.specs.Prelude.{ℕ, List}
use Rattle.marks.specs.Marks.{FloorCounts, LineCounts}
use Rattle.events.specs.declared.Desk.{Desk}
use Rattle.history.specs.Doing.{Doing, Fresh, does, after, after_all}
use Rattle.reach.specs.Sound.{Sound}

-- a fresh desk: one that was just made, or that seats have joined since
abbrev pub SoundFresh : Type 0
SoundFresh = (d : Desk) → Fresh d → Sound d

-- whatever happens to a sound desk leaves it sound
abbrev pub SoundKept : Type 0
SoundKept = (d : Desk) (x : Doing) → Sound d → Sound (after d x)

-- so every desk that can be reached is sound
abbrev pub SoundReached : Type 0
SoundReached = (d : Desk) → Fresh d → (xs : List Doing) → Sound (after_all d xs)

-- and at every such desk, whatever happens, for each seat: whoever waited or was placed waits now, or was struck off, or was given the
-- floor out of the line; whoever held the floor or was given it holds it now, or has ended
abbrev pub MarksCounted : Type 0
MarksCounted = (d : Desk) (x : Doing) (s : ℕ) → Sound d →
    LineCounts d.core (does d x).desk.core (does d x).report.marks s
    × FloorCounts d.core (does d x).desk.core (does d x).report.marks s
