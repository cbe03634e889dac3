-- `clocks_looking::stops_on` keeps its promise, `result ≡ stops_on before after`. Assumes nothing.
use lib.IntN.{pos}
use mathlib.Core.Path.{ap, ◌∙◌}
use Rattle.clocks_looking.specs.ClockSets.{timer_set}
use Rattle.signed.proofs.Signed.{passed}
use Rattle.clocks_looking.proofs.stops_on.Goals as goal

pub found-requires : goal.found-requires
found-requires c = c.timer_set.ensures.upper_bound

pub returns : goal.returns
returns c =
    passed c.found.type_inv ∙ c.found.ensures
    ∙ ap pos (c.timer_set.ensures.value ∙ ap timer_set (c.stopped-set.ensures
    ∙ rw (c.running_in.ensures, c.running_in-2.ensures)))
