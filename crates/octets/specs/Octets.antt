-- Numbers as octets, a part of some octets, and octets written over others: "All numbers are big-endian" (document 01, "The packet").
-- Nothing here knows of packets. Assumes nothing.
use Rattle.std.specs.Prelude.{ℕ, ◌+◌, ◌*◌, ◌/◌, ◌%◌, ◌<◌, List, [], ◌∷◌, ◌++◌, ◌≡◌, length, get_or, take, drop}

-- each of these numbers is an octet
abbrev pub Octets : List ℕ → Type 0
Octets s = (i : ℕ) → get_or s i 0 < 256

-- the octet at a place; zero past the end
abbrev pub nth_octet : List ℕ → ℕ → ℕ
nth_octet s at = get_or s at 0

-- the number that two octets, and four, stand for from a place on
unfoldable pub be16 : List ℕ → ℕ → ℕ
be16 s at = 256 * get_or s at 0 + get_or s (at + 1) 0

unfoldable pub be32 : List ℕ → ℕ → ℕ
be32 s at = 65536 * be16 s at + be16 s (at + 2)

-- a number as two octets, and as four
unfoldable pub octets16 : ℕ → List ℕ
octets16 n = n / 256 ∷ n % 256 ∷ []

unfoldable pub octets32 : ℕ → List ℕ
octets32 n = octets16 (n / 65536) ++ octets16 (n % 65536)

-- the part of s that begins at a place and has so many octets
unfoldable pub part : List ℕ → ℕ → ℕ → List ℕ
part s from count = take count (drop from s)

-- the room with these octets over its own from a place on; all before and behind them is untouched
unfoldable pub over : List ℕ → ℕ → List ℕ → List ℕ
over room at octets = take at room ++ octets ++ drop (at + length octets) room

-- octets were laid over a room from a place on, and end where they say
pub record Laid (before : List ℕ) (at : ℕ) (octets after : List ℕ) (end : ℕ) : Type 0 where
  pub ends : end ≡ at + length octets
  pub stands : after ≡ over before at octets
