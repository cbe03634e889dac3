-- Two small recursions: a column `f at, f (at + 1), ..`, and rows joined in the same way. Every loop that reads or writes the desk's octets
-- goes by one of them. Assumes nothing.
use Rattle.std.specs.Prelude.{ℕ, zero, suc, List, [], ◌∷◌, ◌++◌}

-- n values, from a place on
unfoldable pub column {ℓ} : {A : Type ℓ} → (ℕ → A) → ℕ → ℕ → List A
column f at zero = []
column f at (suc n) = f at ∷ column f (suc at) n

-- n rows, each behind the one before
unfoldable pub rows {ℓ} : {A : Type ℓ} → (ℕ → List A) → ℕ → ℕ → List A
rows f at zero = []
rows f at (suc n) = f at ++ rows f (suc at) n
