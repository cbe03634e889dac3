-- `floor::floor_save` keeps its promise. Assumes nothing.
use Rattle.std.proofs.Common.{rules, refl, ◌∙◌}
use Rattle.desk_test.proofs.Desks.{has_room}
use Rattle.desk_looking.proofs.Looks.{told_from}
use Rattle.signed.proofs.Signed.{passed, pair_same}
use Rattle.floor.proofs.floor_save.Goals as goal

pub from_desk-requires : goal.from_desk-requires
from_desk-requires c = λ q. let h = has_room c.args.desk.now q in search rules

pub returns : goal.returns
returns c =
    pair_same (passed c.from_desk.type_inv) refl
    ∙ told_from c.args.desk.now c.args.room.now c.from_desk.result c.from_desk.new.room _
    (λ q. let e = c.from_desk.ensures.written q in search rules) c.from_desk.ensures.no_desk
