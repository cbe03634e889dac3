-- `desk_writing::put_name` keeps its promise, `room.new ≡ over room.old at (name_octets name)`. Assumes nothing.
use Rattle.std.proofs.Common.{ap, ◌∙◌, arith}
use Rattle.octets.specs.Octets.{over}
use Rattle.desk_octets.specs.Form.{name_octets}
use Rattle.desk_octets.proofs.Pieces.{part-column}
use Rattle.desk_writing.proofs.put_name.Goals as goal

pub returns : goal.returns
unfolding name_octets
returns c = c.put_part.ensures ∙ ap (over c.args.room.now c.args.at) (part-column c.args.name.octets 0 62 (omega arith))
