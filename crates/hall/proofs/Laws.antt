-- Laws of the hall's definitions that the proofs of its functions, and those above them, cite. Assumes nothing.
use Prim.Native.Nat.{ℕ, zero, suc, ◌+◌, ◌≤◌, ◌<◌}
use mathlib.Core.Path.{◌≡◌, refl, ap, sym, ◌∙◌}
use mathlib.Core.Bool.{Bool, true, false}
use mathlib.Core.List.{List, [], ◌∷◌}
use native.Mathlib.Omega.{arith}
use lib.Dec.{eqb}
use Rattle.std.specs.Bool.{beq}
use Rattle.std.specs.Option.{MatchOption}
use Rattle.std.specs.List.{list_any}
use borrow.Author.Tests.{eqb-true, eqb-false}
use Rattle.words.specs.Choice.{when◌then◌else◌, if_yes, if_no, by_test}
use Rattle.words.proofs.Tests.{clash}
use Rattle.std.specs.Prelude.{Option, Some, None, is_some}
use Rattle.hall.specs.Seats.{first_from, someone}

-- what it says of the seats: of the one it finds, and of all where it finds none
pub at_same : {s t : ℕ} → Some s ≡ Some t → s ≡ t
at_same q = cc

pub not_at : (f : Option ℕ) → is_some f ≡ false → f ≡ None
not_at (Some s) q = clash refl q
not_at None q = refl

pub found_holds : (test : ℕ → Bool) (n s t : ℕ) → first_from test n s ≡ Some t → (test t ≡ true) × (t < s + n)
found_holds test zero s t q = let z : ◌≡◌ {A = ℕ} 0 1 = cc in absurd (omega arith)
found_holds test (suc n) s t q =
    by_test (test s)
    (λ e. let m : s ≡ t = at_same (sym (if_yes (test s) (Some s) (first_from test n (suc s)) e) ∙ q) in (ap test (sym m) ∙ e, omega arith))
    (λ e. let r = found_holds test n (suc s) t (sym (if_no (test s) (Some s) (first_from test n (suc s)) e) ∙ q) in
    (r.0, (let z = r.1 in omega arith)))

pub none_holds : (test : ℕ → Bool) (n s t : ℕ) → first_from test n s ≡ None → s ≤ t → t < s + n → test t ≡ false
none_holds test zero s t q a b = absurd (omega arith)
none_holds test (suc n) s t q a b =
    by_test (test s)
    (λ e. let z : ◌≡◌ {A = ℕ} 0 1 = cc (if_yes (test s) (Some s) (first_from test n (suc s)) e) in absurd (omega arith))
    (λ e. by_test (eqb s t)
    (λ m. ap test (sym (eqb-true s t m)) ∙ e)
    (λ m. none_holds test n (suc s) t (sym (if_no (test s) (Some s) (first_from test n (suc s)) e) ∙ q) (omega (arith, eqb-false s t m))
    (omega arith)))

-- a search in order finds the lowest: with none that passes before it, or with none at all
pub lowest_is : (test : ℕ → Bool) (n s : ℕ) (r : Option ℕ) →
    MatchOption r ((k : ℕ) → s ≤ k → k < s + n → test k ≡ false)
    (λ i. (s ≤ i) × (i < s + n) × (test i ≡ true) × ((k : ℕ) → s ≤ k → k < i → test k ≡ false)) → r ≡ first_from test n s
lowest_is test zero s None q = refl
lowest_is test zero s (Some i) q = let a = q.0 in let b = q.1 in absurd (omega arith)
lowest_is test (suc n) s None q =
    lowest_is test n (suc s) None (λ k a b. q k (omega arith) (omega arith)) ∙ sym (if_no _ _ _ (q s (omega arith) (omega arith)))
lowest_is test (suc n) s (Some i) q = let a = q.0 in let b = q.1 in
    by_test (eqb s i)
    (λ m. let e : s ≡ i = eqb-true s i m in sym (if_yes _ _ _ (ap test e ∙ q.2) ∙ ap (λ (t : ℕ). Some t) e))
    (λ m. let l : s < i = omega (arith, eqb-false s i m) in
    lowest_is test n (suc s) (Some i) (l, omega arith, q.2, λ k x y. q.3 k (omega arith) y) ∙ sym (if_no _ _ _ (q.3 s (omega arith) l)))

-- whether someone is in a set
pub someone_any : (bs : List Bool) → list_any (λ b. beq b true) bs ≡ someone bs
unfolding when◌then◌else◌
someone_any [] = refl
someone_any (true ∷ bs) = refl
someone_any (false ∷ bs) = someone_any bs
