-- The padding of a length. Assumes nothing.
use Prim.Native.Nat.{ℕ, ◌+◌, ◌%◌, ◌≤◌}
use native.Mathlib.Omega.{arith}
use mathlib.Core.Path.{◌≡◌}
use Rattle.message.specs.Table.{padding, padded}

-- what a proof about a field's octets opens
unfoldable pub filling : Type 0
unfolding padded padding
filling = ℕ

-- whole words of 4 octets
pub padded_whole : (l : ℕ) → padded l % 4 ≡ 0
unfolding padded padding
padded_whole l = omega arith

-- at least one word, room for ID, L and content, and at most 3 octets of padding
pub padded_least : (l : ℕ) → 4 ≤ padded l
unfolding padded padding
padded_least l = omega arith

pub padded-holds : (l : ℕ) → l + 2 ≤ padded l
unfolding padded padding
padded-holds l = omega arith

pub padded-most : (l : ℕ) → padded l ≤ l + 5
unfolding padded padding
padded-most l = omega arith
