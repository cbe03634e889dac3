-- The mark tells.
use mathlib.Core.Bool.{not, ◌&&◌}
use mathlib.Core.Path.{ap, ◌∙◌}
use lib.Dec.{eqb}
use Rattle.message.specs.declared.Lengths.{Lengths}
use Rattle.message.proofs.Rows.{mark-tells}
use Rattle.message.proofs.is_listed.Goals as goal

pub returns : goal.returns
returns c =
    c.ne.ensures ∙ ap (λ (r : Lengths). not (eqb r.least 0 && eqb r.greatest 255)) c.lengths_of.ensures ∙ mark-tells c.args.id
