-- `identity_octets::same_name` meets its contract. Assumes nothing.
use Rattle.std.proofs.Common.{sym, ◌∙◌, arith}
use Rattle.identity_octets.specs.Identity.{agree, same_octets}
use Rattle.identity_octets.proofs.Parts.{starts}
use Rattle.identity_octets.proofs.same_name.Goals as goal

pub returns-else-same_start : goal.returns-else-same_start
unfolding same_octets
returns-else-same_start c =
    let differ = c.if-same_start.false in
    differ ∙ sym (starts (agree c.args.s.now c.args.a c.args.b) 16 62 (omega arith) (sym c.same_start.ensures ∙ differ))
