-- `floor::floor_seat` keeps its promise, `SeatPromise desk.now seat room.old result room.new`. A seat as the sheet lays it out. Assumes
-- nothing.
use Rattle.signed.proofs.Signed.{passed, pair_same}
use mathlib.Core.Path.{refl, ◌∙◌}
use Rattle.floor.proofs.floor_seat.Goals as goal

pub returns : goal.returns
returns c = pair_same (passed c.seat_on.type_inv) refl ∙ c.seat_on.ensures
