-- Where L stands, and zeros behind some octets. Assumes nothing.
use Prim.Native.Nat.{ℕ, zero, suc, ◌+◌, ◌-◌, ◌<◌}
use native.Mathlib.Omega.{arith}
use mathlib.Core.Path.{◌≡◌, refl}
use mathlib.Core.List.{List, [], ◌∷◌, ◌++◌}
use lib.ListN.{length, get_or, replicate}

-- L stands one octet before the content, which stands two behind the ID
pub length_place_lem : (p : ℕ) → p + 2 - 1 ≡ p + 1
length_place_lem p = omega arith

-- zeros behind some octets read as no octets do
pub zeros_behind_lem : (c : List ℕ) (k j : ℕ) (rest : List ℕ) → j < length c + k → get_or (c ++ (replicate k 0 ++ rest)) j 0 ≡ get_or c j 0
zeros_behind_lem [] zero j rest h = absurd (omega arith)
zeros_behind_lem [] (suc k) zero rest h = refl
zeros_behind_lem [] (suc k) (suc j) rest h = zeros_behind_lem [] k j rest (omega arith)
zeros_behind_lem (x ∷ c) k zero rest h = refl
zeros_behind_lem (x ∷ c) k (suc j) rest h = zeros_behind_lem c k j rest (omega arith)
