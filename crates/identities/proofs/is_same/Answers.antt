-- `identities::is_same` meets its contract: what is compared are the name's octets. Assumes nothing.
use Prim.Native.Nat.{ℕ}
use native.Mathlib.Omega.{arith}
use mathlib.Core.Path.{ap, ◌∙◌}
use mathlib.Core.List.{List}
use lib.Seq.{take_all}
use Rattle.identities.specs.Identity.{same}
use Rattle.identities.proofs.Same.{same_pointwise}
use Rattle.identities.proofs.is_same.Goals as goal

pub returns : goal.returns
returns c =
    c.eq.ensures ∙ same_pointwise _ _ ∙ ap (λ (xs : List ℕ). same xs c.args.identity.now) (grind (arith, take_all))
