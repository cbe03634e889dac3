-- `line::insert` meets its contract. The invariant says which places are filled. Assumes nothing.
use mathlib.Core.List.{◌++◌, ◌∷◌}
use mathlib.Core.Path.{◌≡◌}
use lib.ListN.{take, drop}
use Rattle.line.proofs.Laws.{padded}
use Rattle.line.proofs.insert.Given as goal

abbrev pub invariant-loop-place : goal.invariant-loop-place
invariant-loop-place l = l.entries ≡ padded (take l.place (take l.k l.those ++ l.e ∷ drop l.k l.those))
