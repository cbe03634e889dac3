-- What the search looks into at each function of this crate: the definitions that it is to answer. Assumes nothing.
use Prim.Native.Nat.{ℕ}
use Rattle.words.specs.Choice.{when◌then◌else◌}
use Rattle.hall.specs.Seats.{in_range, empty_hall, effective, with_seat}
use Rattle.hall.specs.Answers.{settings_answer}

unfoldable pub looking : Type 0
unfolding in_range empty_hall effective with_seat settings_answer when◌then◌else◌
looking = ℕ
