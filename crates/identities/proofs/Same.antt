-- The laws of sameness: every identity is the same as itself, both ways alike, and across a third; and so who looks for the same identity
-- finds the same seat. Assumes nothing.
use Prim.Native.Nat.{ℕ, zero, suc}
use mathlib.Core.Path.{◌≡◌, refl, ap, sym, ◌∙◌}
use mathlib.Core.Bool.{Bool, true, false, ◌&&◌}
use mathlib.Core.List.{List, [], ◌∷◌}
use lib.Dec.{eqb}
use Rattle.std.specs.Cmp.Lexicographic.{pointwise}
use borrow.Author.Tests.{eqb-true, eq-eqb}
use Rattle.words.specs.Choice.{when◌then◌else◌, by_test}
use Rattle.words.proofs.Tests.{clash}
use Rattle.std.specs.Prelude.{Option, Some}
use Rattle.hall.specs.declared.Hall.{Hall}
use Rattle.hall.specs.Seats.{is_present, first_from}
use Rattle.identities.specs.declared.Names.{Names}
use Rattle.identities.specs.Identity.{octets_of, name_at, same, Reflexive, Symmetric, Transitive, has_name, seat_named, FoundAlike}

pub same_self : Reflexive
unfolding same when◌then◌else◌
same_self [] = refl
same_self (x ∷ a) = rw (eq-eqb x x refl) (same_self a)

-- the slices' own comparison
pub same_pointwise : (a b : List ℕ) → pointwise eqb a b ≡ same a b
unfolding same when◌then◌else◌
same_pointwise [] [] = refl
same_pointwise [] (y ∷ b) = refl
same_pointwise (x ∷ a) [] = refl
same_pointwise (x ∷ a) (y ∷ b) = by_test (eqb x y) (λ t. rw t (same_pointwise a b)) (λ t. rw t)

-- octet for octet is the same list
same_is : (a b : List ℕ) → same a b ≡ true → a ≡ b
unfolding same when◌then◌else◌
same_is [] [] q = refl
same_is [] (y ∷ b) q = clash q refl
same_is (x ∷ a) [] q = clash q refl
same_is (x ∷ a) (y ∷ b) q =
    by_test (eqb x y)
    (λ t. let m : x ≡ y = eqb-true x y t in let r : a ≡ b = same_is a b (rw t at q) in rw (m, r))
    (λ t. clash (rw t at q) refl)

turned : (a b : List ℕ) → same a b ≡ true → same b a ≡ true
turned a b q = ap (λ (x : List ℕ). same b x) (same_is a b q) ∙ same_self b

pub same_trans : Transitive
same_trans a b c p q = ap (λ (x : List ℕ). same x c) (same_is a b p) ∙ q

-- where each of two tests follows from the other, they are one
each_way : (p q : Bool) → (p ≡ true → q ≡ true) → (q ≡ true → p ≡ true) → p ≡ q
each_way true q f g = sym (f refl)
each_way false true f g = g refl
each_way false false f g = refl

pub same_sym : Symmetric
same_sym a b = each_way (same a b) (same b a) (turned a b) (turned b a)

-- to be the same as one of two that are the same is to be the same as the other
pub same_alike : (x a b : List ℕ) → same a b ≡ true → same x a ≡ same x b
same_alike x a b q =
    each_way (same x a) (same x b) (λ p. same_trans x a b p q) (λ p. same_trans x b a p (sym (same_sym a b) ∙ q))

module _ (h : Hall) (ns : Names) (a b : List ℕ) (q : same a b ≡ true) where
  alike_from : (n s : ℕ) → first_from (has_name h ns a) n s ≡ first_from (has_name h ns b) n s
  alike_from zero s = refl
  alike_from (suc n) s =
      ap (λ (t : Bool). when (is_present h s && t) then Some s else first_from (has_name h ns a) n (suc s))
      (same_alike (octets_of (name_at ns s)) a b q)
      ∙ ap (λ (f : Option ℕ). when has_name h ns b s then Some s else f) (alike_from n (suc s))

pub found_alike : FoundAlike
unfolding seat_named
found_alike h ns a b q = alike_from h ns a b q 16 0
