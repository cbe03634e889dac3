-- An identity and the name that keeps it. Assumes nothing.
use Prim.Native.Nat.{ℕ, ◌≤◌, ◌<◌, min}
use mathlib.Core.Path.{◌≡◌, refl, sym, ◌∙◌}
use mathlib.Core.Bool.{true}
use mathlib.Core.List.{List, ◌++◌}
use lib.Dec.{leb, ltb}
use native.Mathlib.Omega.{arith}
use lib.ListN.{length, replicate, take, drop, get_or-append, get_or-eq_default, length-append, length-take, length-drop}
use lib.Seq.{take-take, take-append_seam, get_or-take, get_or-drop, get_or-append_right}
use borrow.Author.Tests.{leb-true, ltb-true, ltb-false}
use Rattle.words.specs.Below.{and_right}
use Rattle.words.specs.Table.{padded, padded_is, get_d_fill}
use Rattle.words.specs.Choice.{by_test}
use Rattle.std.proofs.lemmas.List.{length-replicate}
use Rattle.identities.specs.Identity.{octets_of, name_of, no_name, length_allowed}

-- an identity of an allowed length comes out of its name as it went in
pub allowed_short : (o : List ℕ) → length_allowed o ≡ true → length o ≤ 62
unfolding length_allowed
allowed_short o q = leb-true (length o) 62 (and_right (leb 1 (length o)) (leb (length o) 62) q)

pub name-octets : (o : List ℕ) → length o ≤ 62 → octets_of (name_of o) ≡ o
unfolding octets_of name_of
name-octets o h = rw (take-take (length o) 62 (o ++ replicate 62 0) h) (take-append_seam o (replicate 62 0))

pub no_name_whole : no_name ≡ name_of (octets_of no_name)
unfolding octets_of name_of
no_name_whole = refl

-- an array that has a list's elements as far as they go, and behind them what fills it
pub kept_front : (n : ℕ) (o : List ℕ) → take (min (length o) n) o ++ drop (min (length o) n) (replicate n 0) ≡ padded 0 n o
kept_front n o =
    padded_is 0 n _ o (simp (length-append, length-take, length-drop, length-replicate) (omega arith))
    (λ i h. by_test (ltb i (length o))
    (λ t. let l : i < length o = ltb-true _ _ t in
    get_or-append (take (min (length o) n) o) _ 0 i (simp length-take (omega arith)) ∙ get_or-take _ o i 0 (omega arith))
    (λ t. let l : length o ≤ i = ltb-false _ _ t in
    get_or-append_right (take (min (length o) n) o) _ i 0 (simp length-take (omega arith))
    ∙ get_or-drop _ (replicate n 0) _ 0 ∙ get_d_fill 0 n _ ∙ sym (get_or-eq_default o 0 l)))
