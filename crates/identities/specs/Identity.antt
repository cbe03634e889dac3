-- Identities (document 01, "The desk", 25 and 26): 1 to 62 octets, kept in an array of 62 with zeros behind them. Assumes nothing.
use Rattle.std.specs.Prelude.{ℕ, Bool, true, false, ◌&&◌, List, [], ◌∷◌, ◌≡◌, leb, eqb, length, take, get_or, set, replicate, Option}
use Rattle.words.specs.Choice.{when◌then◌else◌}
use Rattle.words.specs.Table.{padded}
use Rattle.identities.specs.declared.Name.{Name}
use Rattle.identities.specs.declared.Names.{Names}
use Rattle.hall.specs.declared.Hall.{Hall}
use Rattle.hall.specs.Seats.{lowest, is_present}

unfoldable pub octets_of : Name → List ℕ
octets_of n = take n.len n.octets

unfoldable pub name_of : List ℕ → Name
name_of o = record { octets = padded 0 62 o; len = length o }

abbrev pub no_name : Name
no_name = record { octets = replicate 62 0; len = 0 }

unfoldable pub no_names : Names
no_names = record { «of» = replicate 16 no_name }

abbrev pub name_at : Names → ℕ → Name
name_at ns s = get_or ns.«of» s no_name

-- each column of a hall, and the names, have a place for each of the sixteen seats
abbrev pub Sixteen : Hall → Names → Type 0
Sixteen h ns =
    (length h.present ≡ 16) × (length h.ssrcs ≡ 16) × (length h.highest ≡ 16) × (length h.flags ≡ 16)
    × (length ns.«of» ≡ 16)

unfoldable pub with_name : Names → ℕ → Name → Names
with_name ns s n = record { «of» = set ns.«of» s n }

-- Two identities are the same if they agree octet for octet. What stands above knows this by its three laws alone (proved in proofs/Same),
-- and by what they say of a search.
unfoldable pub same : List ℕ → List ℕ → Bool
same [] [] = true
same [] (y ∷ ys) = false
same (x ∷ xs) [] = false
same (x ∷ xs) (y ∷ ys) = when eqb x y then same xs ys else false

abbrev pub Reflexive : Type 0
Reflexive = (a : List ℕ) → same a a ≡ true

abbrev pub Symmetric : Type 0
Symmetric = (a b : List ℕ) → same a b ≡ same b a

abbrev pub Transitive : Type 0
Transitive = (a b c : List ℕ) → same a b ≡ true → same b c ≡ true → same a c ≡ true

-- the lowest seat whose name it is
abbrev pub has_name : Hall → Names → List ℕ → ℕ → Bool
has_name h ns o s = is_present h s && same (octets_of (name_at ns s)) o

unfoldable pub seat_named : Hall → Names → List ℕ → Option ℕ
seat_named h ns o = lowest (has_name h ns o)

-- who looks for the same identity finds the same seat
abbrev pub FoundAlike : Type 0
FoundAlike = (h : Hall) (ns : Names) (a b : List ℕ) → same a b ≡ true → seat_named h ns a ≡ seat_named h ns b

-- 25
unfoldable pub length_allowed : List ℕ → Bool
length_allowed o = leb 1 (length o) && leb (length o) 62
