-- An array of fixed size that holds a list: the list's elements first, and one filling value in every place behind them.
-- Assumes nothing.
use Rattle.std.specs.Prelude.{ℕ, zero, suc, ◌+◌, ◌<◌, ◌≡◌, refl, List, [], ◌∷◌, ◌++◌, eqb, length, take, get_or, set, replicate}
use Rattle.std.proofs.Common.{sym, ◌∙◌, arith, length-take, length-append, get_or-take, ext_get_or, get_or-set_same, get_or-set_other}
use Rattle.std.proofs.Common.{eqb-true}
use Rattle.std.proofs.lemmas.List.{length-replicate}
use Rattle.std.proofs.lemmas.Bool.{eqb-false}
use Rattle.words.specs.Choice.{by_test}

module _ {A : Type 0} (z : A) where
  abbrev pub padded : ℕ → List A → List A
  padded n xs = take n (xs ++ replicate n z)

  pub padded-length : (n : ℕ) (xs : List A) → length (padded n xs) ≡ n
  padded-length n xs = simp (length-take, length-append, length-replicate) (omega arith)

  -- every place of a filling, and those past it
  pub get_d_fill : (n i : ℕ) → get_or (replicate n z) i z ≡ z
  get_d_fill zero i = refl
  get_d_fill (suc n) zero = refl
  get_d_fill (suc n) (suc i) = get_d_fill n i

  get_d_behind : (xs : List A) (n i : ℕ) → get_or (xs ++ replicate n z) i z ≡ get_or xs i z
  get_d_behind [] n i = get_d_fill n i
  get_d_behind (x ∷ xs) n zero = refl
  get_d_behind (x ∷ xs) n (suc i) = get_d_behind xs n i

  pub padded-at : (n : ℕ) (xs : List A) (i : ℕ) → i < n → get_or (padded n xs) i z ≡ get_or xs i z
  padded-at n xs i h = get_or-take n (xs ++ replicate n z) i z h ∙ get_d_behind xs n i

  -- an array that agrees with a list at every place holds that list
  pub padded_is : (n : ℕ) (a xs : List A) → length a ≡ n → ((i : ℕ) → i < n → get_or a i z ≡ get_or xs i z) → a ≡ padded n xs
  padded_is n a xs h f =
      ext_get_or z a (padded n xs) (h ∙ sym (padded-length n xs))
      (λ i k. let q : i < n = rw h at k in f i q ∙ sym (padded-at n xs i q))

  -- filling an array from the front, one place further
  pub filled_more : (a t : List A) (i : ℕ) (x : A) → i < length a → ((j : ℕ) → j < i → get_or a j z ≡ get_or t j z) → x ≡ get_or t i z →
      (j : ℕ) → j < i + 1 → get_or (set a i x) j z ≡ get_or t j z
  filled_more a t i x h f q j k =
      by_test (eqb j i)
      (λ b. let s : j ≡ i = eqb-true j i b in rw s (get_or-set_same a i x z h ∙ q))
      (λ b. get_or-set_other a i j x z (eqb-false j i b) ∙ f j (omega (arith, eqb-false j i b)))
