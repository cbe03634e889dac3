-- The sixty_two octets of an identity at two places of the desk (docs/FORMS.md, the form of document 01, "The desk"). Assumes nothing.
use Rattle.std.specs.Prelude.{ℕ, ◌+◌, Bool, List, eqb}
use Rattle.octets.specs.Octets.{nth_octet}
use Rattle.words.specs.Below.{all_below}

-- sixty_two octets are the same at two places
abbrev pub agree : List ℕ → ℕ → ℕ → ℕ → Bool
agree s a b i = eqb (nth_octet s (a + i)) (nth_octet s (b + i))

unfoldable pub same_octets : List ℕ → ℕ → ℕ → Bool
same_octets s a b = all_below (agree s a b) 62
