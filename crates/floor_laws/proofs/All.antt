-- Lists whose elements all have something: what the pieces of a desk are made with keeps it. Assumes nothing.
use Prim.Native.Nat.{ℕ, zero, suc}
use mathlib.Core.List.{List, [], ◌∷◌, ◌++◌}
use lib.ListN.{get_or, take, drop, set, replicate}
use Rattle.words.specs.Table.{padded}
use Rattle.desk_octets.specs.Columns.{column, rows}

module _ {A : Type 0} (P : A → Type 0) where
  abbrev pub All : List A → Type 0
  All [] = Unit
  All (x ∷ xs) = P x × All xs

  pub all_take : (n : ℕ) (xs : List A) → All xs → All (take n xs)
  all_take zero xs k = tt
  all_take (suc n) [] k = tt
  all_take (suc n) (x ∷ xs) k = (k.0, all_take n xs k.1)

  pub all_drop : (n : ℕ) (xs : List A) → All xs → All (drop n xs)
  all_drop zero xs k = k
  all_drop (suc n) [] k = tt
  all_drop (suc n) (x ∷ xs) k = all_drop n xs k.1

  pub all_both : (xs ys : List A) → All xs → All ys → All (xs ++ ys)
  all_both [] ys k l = l
  all_both (x ∷ xs) ys k l = (k.0, all_both xs ys k.1 l)

  pub all_same : (n : ℕ) (a : A) → P a → All (replicate n a)
  all_same zero a p = tt
  all_same (suc n) a p = (p, all_same n a p)

  pub all_padded : (z : A) (n : ℕ) (xs : List A) → P z → All xs → All (padded z n xs)
  all_padded z n xs p k = all_take n (xs ++ replicate n z) (all_both xs (replicate n z) k (all_same n z p))

  pub all_set : (xs : List A) (i : ℕ) (a : A) → P a → All xs → All (set xs i a)
  all_set [] i a p k = tt
  all_set (x ∷ xs) zero a p k = (p, k.1)
  all_set (x ∷ xs) (suc i) a p k = (k.0, all_set xs i a p k.1)

  pub all_at : (z : A) → P z → (xs : List A) → All xs → (i : ℕ) → P (get_or xs i z)
  all_at z p [] k i = p
  all_at z p (x ∷ xs) k zero = k.0
  all_at z p (x ∷ xs) k (suc i) = all_at z p xs k.1 i

  pub at_all : (z : A) (xs : List A) → ((i : ℕ) → P (get_or xs i z)) → All xs
  at_all z [] f = tt
  at_all z (x ∷ xs) f = (f 0, at_all z xs (λ i. f (suc i)))

  pub all_column : (f : ℕ → A) → ((i : ℕ) → P (f i)) → (at n : ℕ) → All (column f at n)
  unfolding column
  all_column f k at zero = tt
  all_column f k at (suc n) = (k at, all_column f k (suc at) n)

  pub all_rows : (f : ℕ → List A) → ((i : ℕ) → All (f i)) → (at n : ℕ) → All (rows f at n)
  unfolding rows
  all_rows f k at zero = tt
  all_rows f k at (suc n) = all_both (f at) (rows f (suc at) n) (k at) (all_rows f k (suc at) n)
