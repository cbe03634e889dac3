-- A block laid behind a part, or over its end, whatever formulas its places have. Assumes nothing.
use Prim.Native.Nat.{ℕ, ◌+◌, ◌≤◌}
use mathlib.Core.Path.{◌≡◌, ap, ◌∙◌}
use mathlib.Core.List.{List}
use lib.ListN.{length}
use Rattle.octets.specs.Octets.{over, part}
use Rattle.octets.proofs.Over.{over_again}

pub behind : (room s : List ℕ) (at from j k n : ℕ) {count to start : ℕ} {room₁ room₂ : List ℕ} → to ≡ at + k → start ≡ from + k
    → k + n ≡ count → k ≤ j → j ≤ count → at + count ≤ length room → from + count ≤ length s
    → room₁ ≡ over room at (part s from j) → room₂ ≡ over room₁ to (part s start n) → room₂ ≡ over room at (part s from count)
behind room s at from j k n {start = start} {room₁ = room₁} d e c p q h l e₁ e₂ =
    over_again room s at from j k n c p q h l e₁
    (e₂ ∙ ap (λ (m : ℕ). over room₁ m (part s start n)) d ∙ ap (λ (m : ℕ). over room₁ (at + k) (part s m n)) e)
