-- The test decides: of a desk that has what its types give, it passes exactly the sound ones. So "every desk that steps can reach from a
-- fresh one" (document 01, "The desk") passes, and what passes goes on passing. Each statement here is proved in proofs/Sound. Assumes
-- nothing.
use Rattle.std.specs.Prelude.{◌≡◌, true, List}
use Rattle.events.specs.declared.Desk.{Desk}
use Rattle.history.specs.Doing.{Doing, Fresh, after, after_all}
use Rattle.reach.specs.Sound.{Sound}
use Rattle.desk_test.specs.Lent.{is_sound}
use Rattle.desk_test_laws.specs.Typed.{Typed}

abbrev pub PassesTest : Desk → Type 0
PassesTest d = is_sound d.core d.hall d.names ≡ true

abbrev pub SoundTest : Type 0
SoundTest = (d : Desk) → Typed d → PassesTest d → Sound d

abbrev pub TestSound : Type 0
TestSound = (d : Desk) → Sound d → PassesTest d

-- what a desk's types give, every sound desk has
abbrev pub SoundTyped : Type 0
SoundTyped = (d : Desk) → Sound d → Typed d

-- every desk that can be reached passes
abbrev pub ReachedPasses : Type 0
ReachedPasses = (start : Desk) → Fresh start → (xs : List Doing) → PassesTest (after_all start xs)

-- and what passes goes on passing, whatever does
abbrev pub PassesKept : Type 0
PassesKept = (d : Desk) (x : Doing) → Typed d → PassesTest d → PassesTest (after d x)
