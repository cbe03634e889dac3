-- `desk_making::in_octets` keeps its promise, `result ≡ in_octets (narrowed wide)`. Assumes nothing.
use Rattle.desk_making.specs.Making.{in_octets}
use mathlib.Core.Path.{refl}
use Rattle.desk_making.proofs.in_octets.Goals as goal

pub returns : goal.returns
unfolding in_octets
returns c = refl
