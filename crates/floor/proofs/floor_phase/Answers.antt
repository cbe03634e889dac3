-- `floor::floor_phase` keeps its promise. Assumes nothing.
use Rattle.std.proofs.Common.{rules, ◌∙◌}
use Rattle.desk_test.proofs.Desks.{has_room}
use Rattle.desk_looking.proofs.Looks.{looked}
use Rattle.signed.proofs.Signed.{passed}
use Rattle.floor.proofs.floor_phase.Goals as goal

pub on_desk-requires : goal.on_desk-requires
on_desk-requires c = λ q. let h = has_room c.args.desk.now q in search rules

pub returns : goal.returns
returns c =
    passed c.on_desk.type_inv
    ∙ looked c.args.desk.now c.on_desk.result _ (λ q. let e = c.on_desk.ensures.asked q in search rules) c.on_desk.ensures.no_desk
