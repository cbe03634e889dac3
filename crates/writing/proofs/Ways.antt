-- The three ways in which the writer answers, and what it leaves in the room.
-- Assumes nothing.
use Prim.Native.Nat.{ℕ, ◌≤◌, ◌<◌}
use mathlib.Core.Bool.{true, false}
use mathlib.Core.List.{List}
use mathlib.Core.Path.{◌≡◌}
use lib.ListN.{length}
use borrow.Author.Tests.{lt-ltb, le-ltb}
use Rattle.words.specs.Choice.{when◌then◌else◌}
use Rattle.octets.specs.Octets.{over}
use Rattle.message.specs.Message.{said}
use Rattle.message.specs.Answers.{refused, result}
use Rattle.message.specs.declared.Message.{Message}
use Rattle.writing.specs.Wire.{wire}
use Rattle.readable.specs.Readable.{readable}
use Rattle.writing.specs.Writing.{writing, written}

module _ (m : Message) (src room : List ℕ) where
  -- 12
  pub unreadable : readable m src ≡ false → writing m src (length room) ≡ refused 12
  unfolding writing when◌then◌else◌
  unreadable r = rw r

  -- 13
  pub roomless : readable m src ≡ true → length room < length (wire (said m src)) → writing m src (length room) ≡ refused 13
  unfolding writing when◌then◌else◌
  roomless r h = rw (r, lt-ltb _ _ h)

  pub accepted : readable m src ≡ true → length (wire (said m src)) ≤ length room →
      writing m src (length room) ≡ result (length (wire (said m src)))
  unfolding writing when◌then◌else◌
  accepted r h = rw (r, le-ltb _ _ h)

  pub untouched : {n : ℕ} → writing m src (length room) ≡ refused n → written m src room ≡ room
  unfolding written
  untouched e = rw e

  pub overwritten : {n : ℕ} → writing m src (length room) ≡ result n → written m src room ≡ over room 0 (wire (said m src))
  unfolding written
  overwritten e = rw e
