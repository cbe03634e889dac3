-- `line::entered` meets its contract. Assumes nothing.
use mathlib.Core.Path.{sym}
use Rattle.line.specs.Line.{enter}
use Rattle.line.proofs.Laws.{ahead_le}
use Rattle.line.proofs.entered.Goals as goal

pub insert-requires : goal.insert-requires
insert-requires c = rw c.place_for-k.ensures (ahead_le _ _)

pub returns : goal.returns
unfolding enter
returns c = rw (sym c.place_for-k.ensures) c.insert.ensures
