-- `floor::floor_load` keeps its promise, `LoadPromise desk.old sheet.now result desk.new`. Assumes nothing.
use Rattle.std.proofs.Common.{refl, sym, ap, ◌∙◌}
use Rattle.signed.proofs.Signed.{passed, numbered, pair_same}
use Rattle.desk_making.specs.Making.{loaded_into}
use Rattle.floor.proofs.floor_load.Goals as goal

pub returns-in-Ok : goal.returns-in-Ok
returns-in-Ok c =
    pair_same (passed c.write_desk.type_inv) refl ∙ c.write_desk.ensures
    ∙ ap (loaded_into c.args.desk.now) (sym c.in-Ok.is ∙ c.load.ensures)

pub returns-in-Err : goal.returns-in-Err
returns-in-Err c =
    pair_same (passed c.refused.type_inv ∙ numbered c.refused.ensures) refl
    ∙ ap (loaded_into c.args.desk.now) (sym c.in-Err.is ∙ c.load.ensures)
