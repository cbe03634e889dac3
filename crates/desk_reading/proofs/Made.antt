-- What an array holds that is made by a call for each place. Assumes nothing.
use Rattle.std.proofs.Common.{◌≡◌, refl, ℕ, zero, suc, ◌+◌, ◌≤◌, ◌<◌, List, eqb, get_or, ap, sym, subst, ◌∙◌, arith, zero-add}
use Rattle.std.proofs.lemmas.Bool.{eqb-true, eqb-false}
use Rattle.std.specs.Array.{IsFromFnResultFrom, IsFromFnResult}
use denote.Param.Members.{Mut, Called}
use Rattle.words.specs.Choice.{by_test}
use Rattle.desk_octets.specs.Columns.{column}
use Rattle.desk_octets.proofs.Columns.{column_is}

-- where each call gives what a column has at its place, and leaves the callee as it was
module _ {F A : Type 0} (g : Mut F (ℕ × Unit {0}) A) (f : F) (h : ℕ → A) (at n : ℕ)
    (calls : (i : ℕ) (x : A) (q : F) → i < n → Called g f (i, tt) x q → (x ≡ h (at + i)) × (q ≡ f)) where
  made_from : (xs : List A) (p : F) (i m : ℕ) → p ≡ f → i + m ≤ n → IsFromFnResultFrom g p xs i m →
      (k : ℕ) (d : A) → i ≤ k → k < i + m → get_or xs k d ≡ h (at + k)
  made_from xs p i zero e b made k d u v = absurd (omega arith)
  made_from xs p i (suc m) e b (q, x, here, call, made) k d u v =
      let c = calls i x q (omega arith) (subst (λ (r : F). Called g r (i, tt) x q) e call) in
      by_test (eqb k i)
      (λ t. let s : k ≡ i = eqb-true k i t in rw s (here.1 d ∙ c.0))
      (λ t. made_from xs q (i + 1) m c.1 (omega arith) made k d (omega (arith, eqb-false k i t)) (omega arith))

  pub made_column : (d : A) (xs : List A) → IsFromFnResult g f xs n → xs ≡ column h at n
  made_column d xs made =
      column_is h xs at n d made.long (λ i b. made_from xs f 0 n refl (omega arith) made.each i d (omega arith) (omega arith))

-- the same, of a column from 0 on
pub made_from_0 : {F A : Type 0} (g : Mut F (ℕ × Unit {0}) A) (f : F) (h : ℕ → A) (n : ℕ) →
    ((i : ℕ) (x : A) (q : F) → i < n → Called g f (i, tt) x q → (x ≡ h i) × (q ≡ f)) →
    (d : A) (xs : List A) → IsFromFnResult g f xs n → xs ≡ column h 0 n
made_from_0 g f h n calls =
    made_column g f h 0 n (λ i x q b k. let c = calls i x q b k in (c.0 ∙ ap h (sym (zero-add i)), c.1))
