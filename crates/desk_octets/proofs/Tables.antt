-- Columns and rows again, as the ways back and forth use them. Assumes nothing.
use Prim.Native.Nat.{ℕ, zero, suc, ◌+◌, ◌*◌, ◌<◌}
use native.Mathlib.Nat.{zero-add, add-zero, mul-zero, mul-suc}
use native.Mathlib.Omega.{arith}
use mathlib.Core.Path.{◌≡◌, refl, sym, ap, ◌∙◌}
use mathlib.Core.List.{List, ◌++◌}
use lib.ListN.{length, get_or, get_or-append}
use lib.Seq.{get_or-append-add}
use native.Mathlib.Numerals.{add-one}
use Rattle.desk_octets.specs.Columns.{column, rows}
use Rattle.desk_octets.proofs.Columns.{shift, column_is_from_0, column-two, rows_next}

-- a list of n is the column of what stands in it
pub column_all : {A : Type 0} (l : List A) (n : ℕ) (d : A) → length l ≡ n → column (λ i. get_or l i d) 0 n ≡ l
column_all l n d h = sym (column_is_from_0 (λ i. get_or l i d) l n d h (λ i k. refl))

-- what stands at a place of a row
pub get_d_rows : {A : Type 0} (f : ℕ → List A) (w at n k i : ℕ) (d : A) → ((j : ℕ) → length (f j) ≡ w) → k < n → i < w →
    get_or (rows f at n) (w * k + i) d ≡ get_or (f (at + k)) i d
unfolding rows
get_d_rows f w at zero k i d l h b = absurd (omega arith)
get_d_rows f w at (suc n) zero i d l h b =
    let q : i < length (f at) = omega (arith, l at) in
    let e : w * 0 + i ≡ i = rw (mul-zero, zero-add) in
    rw (e, add-zero) (get_or-append (f at) (rows f (suc at) n) d i q)
get_d_rows f w at (suc n) (suc k) i d l h b =
    let e : w * suc k + i ≡ length (f at) + (w * k + i) = rw mul-suc (omega (arith, l at)) in
    rw e (get_or-append-add (f at) (rows f (suc at) n) (w * k + i) d) ∙ get_d_rows f w (suc at) n k i d l (omega arith) b
    ∙ ap (λ (j : ℕ). get_or (f j) i d) (shift at k)

-- rows that are the parts of one column
no_rows : {A : Type 0} (f : ℕ → List A) (g : ℕ → A) (at bt : ℕ) → rows f at 0 ≡ column g bt 0
unfolding rows column
no_rows f g at bt = refl

pub rows-column : {A : Type 0} (f : ℕ → A) (w at n : ℕ) → rows (λ i. column f (at + w * i) w) 0 n ≡ column f at (w * n)
rows-column f w at zero = rw mul-zero (no_rows (λ i. column f (at + w * i) w) f 0 at)
rows-column {A} f w at (suc n) =
    (rw (add-one, zero-add) at (rows_next (λ i. column f (at + w * i) w) 0 n))
    ∙ ap (λ (l : List A). l ++ column f (at + w * n) w) (rows-column f w at n) ∙ column-two f at (w * n) w
    ∙ ap (column f at) (sym (mul-suc w n))
