-- Laws of columns and rows: their lengths, what stands at a place, one more at the end, and when two are the same.
-- Assumes nothing.
use Prim.Native.Nat.{ℕ, zero, suc, ◌+◌, ◌*◌, ◌<◌}
use native.Mathlib.Nat.{add-zero, zero-add, suc-add, mul-zero, mul-suc}
use native.Mathlib.Numerals.{add-one}
use native.Mathlib.Omega.{arith}
use mathlib.Core.Path.{◌≡◌, refl, sym, ap, ◌∙◌}
use mathlib.Core.List.{List, [], ◌∷◌, ◌++◌, append_assoc, append-nil}
use lib.ListN.{length, get_or, length-append}
use lib.Seq.{ext_get_or}
use Rattle.desk_octets.specs.Columns.{column, rows}

-- a place further on, counted from either end
pub shift : (at n : ℕ) → suc at + n ≡ at + suc n
shift at n = omega arith

module _ {A : Type 0} (f : ℕ → A) where
  pub length-column : (at n : ℕ) → length (column f at n) ≡ n
  unfolding column
  length-column at zero = refl
  length-column at (suc n) = ap suc (length-column (suc at) n)

  pub get_d_column : (at n i : ℕ) (d : A) → i < n → get_or (column f at n) i d ≡ f (at + i)
  unfolding column
  get_d_column at zero i d h = absurd (omega arith)
  get_d_column at (suc n) zero d h = ap f (sym (add-zero at))
  get_d_column at (suc n) (suc i) d h = get_d_column (suc at) n i d (omega arith) ∙ ap f (shift at i)

  column-suc : (at n : ℕ) → column f at (suc n) ≡ column f at n ++ (f (at + n) ∷ [])
  unfolding column
  column-suc at zero = ap (λ (i : ℕ). f i ∷ []) (sym (add-zero at))
  column-suc at (suc n) =
      ap (λ (l : List A). f at ∷ l) (column-suc (suc at) n) ∙ ap (λ (i : ℕ). f at ∷ column f (suc at) n ++ (f i ∷ [])) (shift at n)

  pub column-next : (at n : ℕ) → column f at (n + 1) ≡ column f at n ++ (f (at + n) ∷ [])
  column-next at n = rw (add-one n) (column-suc at n)

  -- a list that agrees with a column at every place is that column
  pub column_is : (a : List A) (at n : ℕ) (d : A) → length a ≡ n → ((i : ℕ) → i < n → get_or a i d ≡ f (at + i)) → a ≡ column f at n
  column_is a at n d h k =
      ext_get_or d a (column f at n) (h ∙ sym (length-column at n))
      (λ i b. let q : i < n = rw h at b in k i q ∙ sym (get_d_column at n i d q))

  -- the same, of a column from 0 on
  pub column_is_from_0 : (a : List A) (n : ℕ) (d : A) → length a ≡ n → ((i : ℕ) → i < n → get_or a i d ≡ f i) → a ≡ column f 0 n
  column_is_from_0 a n d h k = column_is a 0 n d h (λ i b. k i b ∙ ap f (sym (zero-add i)))

  column-more : (at n m : ℕ) → column f at (n + m) ≡ column f at n ++ column f (at + n) m
  unfolding column
  column-more at zero m = rw (zero-add, add-zero)
  column-more at (suc n) m =
      rw (suc-add) (ap (λ (l : List A). f at ∷ l) (column-more (suc at) n m)
      ∙ ap (λ (i : ℕ). f at ∷ column f (suc at) n ++ column f i m) (shift at n))

  pub column-two : (at n m : ℕ) → column f at n ++ column f (at + n) m ≡ column f at (n + m)
  column-two at n m = sym (column-more at n m)

-- two columns that agree at every place
pub column-same : {A : Type 0} (f g : ℕ → A) (at bt n : ℕ) → ((i : ℕ) → i < n → f (at + i) ≡ g (bt + i)) → column f at n ≡ column g bt n
unfolding column
column-same f g at bt zero h = refl
column-same {A} f g at bt (suc n) h =
    let e : f at ≡ g bt = ap f (sym (add-zero at)) ∙ h 0 (omega arith) ∙ ap g (add-zero bt) in
    let r : column f (suc at) n ≡ column g (suc bt) n =
    column-same f g (suc at) (suc bt) n (λ i b. ap f (shift at i) ∙ h (suc i) (omega arith) ∙ sym (ap g (shift bt i))) in
    rw (e, r)

module _ {A : Type 0} (f : ℕ → List A) where
  rows-suc : (at n : ℕ) → rows f at (suc n) ≡ rows f at n ++ f (at + n)
  unfolding rows
  rows-suc at zero = append-nil (f at) ∙ ap f (sym (add-zero at))
  rows-suc at (suc n) =
      ap (λ (l : List A). f at ++ l) (rows-suc (suc at) n) ∙ sym (append_assoc (f at) (rows f (suc at) n) (f (suc at + n)))
      ∙ ap (λ (i : ℕ). (f at ++ rows f (suc at) n) ++ f i) (shift at n)

  pub rows_next : (at n : ℕ) → rows f at (n + 1) ≡ rows f at n ++ f (at + n)
  rows_next at n = rw (add-one n) (rows-suc at n)

  pub length-rows : (w at n : ℕ) → ((i : ℕ) → length (f i) ≡ w) → length (rows f at n) ≡ w * n
  unfolding rows
  length-rows w at zero h = sym (mul-zero w)
  length-rows w at (suc n) h =
      let e : length (f at) ≡ w = h at in
      let r : length (rows f (suc at) n) ≡ w * n = length-rows w (suc at) n h in
      length-append (f at) (rows f (suc at) n) ∙ rw (e, r, mul-suc) (omega arith)

-- rows that agree, and rows that are the parts of one column
pub rows_same : {A : Type 0} (f g : ℕ → List A) (at n : ℕ) → ((i : ℕ) → i < n → f (at + i) ≡ g (at + i)) → rows f at n ≡ rows g at n
unfolding rows
rows_same f g at zero h = refl
rows_same f g at (suc n) h =
    let e : f at ≡ g at = ap f (sym (add-zero at)) ∙ h 0 (omega arith) ∙ ap g (add-zero at) in
    let r : rows f (suc at) n ≡ rows g (suc at) n =
    rows_same f g (suc at) n (λ i b. ap f (shift at i) ∙ h (suc i) (omega arith) ∙ sym (ap g (shift at i))) in
    rw (e, r)
