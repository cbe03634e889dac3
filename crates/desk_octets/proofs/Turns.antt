-- Writing piece behind piece, and what a turn of each loop leaves. Assumes nothing.
use Prim.Native.Nat.{ℕ, ◌+◌, ◌*◌, ◌≤◌, ◌<◌}
use native.Mathlib.Nat.{zero-add}
use mathlib.Core.Path.{◌≡◌, ap, ◌∙◌}
use mathlib.Core.List.{List, ◌++◌}
use lib.ListN.{length, set}
use Rattle.octets.specs.Octets.{over}
use Rattle.octets.proofs.Over.{over-two, over_turn}
use Rattle.desk_octets.specs.Columns.{column, rows}
use Rattle.desk_octets.proofs.Columns.{length-column, column-next, rows_next, length-rows}

-- what is written behind a piece that was written
pub over-behind : (room₀ room : List ℕ) (at bt : ℕ) (xs ys : List ℕ) → room ≡ over room₀ at xs → at + length xs ≡ bt → at ≤ length room₀ →
    over room bt ys ≡ over room₀ at (xs ++ ys)
over-behind room₀ room at bt xs ys e q h = rw (e, ← q) (over-two room₀ at xs ys h)

-- a piece more, as two writes say it
pub next_piece : (room₀ room₁ room₂ : List ℕ) (at bt : ℕ) (xs ys : List ℕ) → room₁ ≡ over room₀ at xs → room₂ ≡ over room₁ bt ys →
    at + length xs ≡ bt → at ≤ length room₀ → room₂ ≡ over room₀ at (xs ++ ys)
next_piece room₀ room₁ room₂ at bt xs ys e d q h = d ∙ over-behind room₀ room₁ at bt xs ys e q h

-- a turn of a loop that writes a column, and of one that writes rows
pub column_turn : (f : ℕ → ℕ) (room₀ room : List ℕ) (at i x : ℕ) → at + i < length room₀ → room ≡ over room₀ at (column f 0 i) → x ≡ f i →
    set room (at + i) x ≡ over room₀ at (column f 0 (i + 1))
column_turn f room₀ room at i x h e q =
    over_turn room₀ room at i x (column f 0 i) (length-column f 0 i) h e
    ∙ ap (over room₀ at) (rw (q, column-next f 0 i, zero-add))

pub rows_turn : (f : ℕ → List ℕ) (w : ℕ) (room₀ room room₁ : List ℕ) (at i j : ℕ) (x : List ℕ) → ((k : ℕ) → length (f k) ≡ w) →
    at ≤ length room₀ →
    room ≡ over room₀ at (rows f 0 i) → j ≡ i → x ≡ f i → room₁ ≡ over room (at + w * j) x → room₁ ≡ over room₀ at (rows f 0 (i + 1))
rows_turn f w room₀ room room₁ at i j x l h e p q d =
    (rw (p, q) at d) ∙ over-behind room₀ room at (at + w * i) (rows f 0 i) (f i) e (ap (λ (n : ℕ). at + n) (length-rows f w 0 i l)) h
    ∙ ap (over room₀ at) (rw (rows_next f 0 i, zero-add))
