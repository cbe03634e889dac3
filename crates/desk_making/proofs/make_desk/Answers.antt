-- `desk_making::make_desk` keeps its promise, `(result, desk.new) ≡ make_on desk.old (narrowed wide)`. Assumes nothing.
use Rattle.signed.proofs.Signed.{passed, numbered, pair_same}
use Rattle.desk_making.proofs.Making.{made_as}
use mathlib.Core.Path.{refl, sym, ◌∙◌}
use Rattle.desk_making.proofs.make_desk.Goals as goal

pub returns-in-Ok : goal.returns-in-Ok
returns-in-Ok c =
    pair_same (passed c.write_desk.type_inv) refl ∙ c.write_desk.ensures
    ∙ rw (c.fresh_core.ensures, c.empty_hall.ensures, c.no_names.ensures)
    (made_as _ _ _ (sym c.usable.ensures ∙ c.in-Ok.is))

pub returns-in-Err : goal.returns-in-Err
returns-in-Err c =
    pair_same (passed c.refused.type_inv ∙ numbered c.refused.ensures) refl
    ∙ made_as _ _ _ (sym c.usable.ensures ∙ c.in-Err.is)
