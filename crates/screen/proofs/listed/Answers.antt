-- `screen::listed` answers the line's list: what `fill` writes to a room of fifteen empty places. Assumes nothing.
use mathlib.Core.Path.{◌∙◌}
use native.Mathlib.Omega.{arith}
use Rattle.screen.proofs.Laws.{listed_all}
use Rattle.screen.proofs.listed.Goals as goal

pub returns : goal.returns
returns c = c.fill.ensures.1 ∙ listed_all c.args.line (omega arith)
