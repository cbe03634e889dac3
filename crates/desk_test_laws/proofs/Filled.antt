-- Arrays with a filling behind them. Assumes nothing.
use Prim.Native.Nat.{ℕ, ◌<◌}
use mathlib.Core.Path.{◌≡◌, ap, sym, ◌∙◌}
use mathlib.Core.Bool.{false}
use mathlib.Core.List.{List}
use native.Mathlib.Omega.{arith}
use lib.Dec.{ltb}
use lib.ListN.{length, take, get_or, length-take, get_or-eq_default}
use lib.Seq.{get_or-take}
use borrow.Author.Tests.{ltb-true, ltb-false}
use Rattle.words.specs.Choice.{by_test}
use Rattle.words.specs.Table.{padded, padded_is, padded-at}

module _ {A : Type 0} (z : A) (n k : ℕ) (a : List A) where
  -- an array whose places behind the first k hold the filling is the array that holds the first k
  pub filled-behind : length a ≡ n → ((i : ℕ) → i < n → ltb i (length (take k a)) ≡ false → get_or a i z ≡ z) → a ≡ padded z n (take k a)
  filled-behind h f =
      padded_is z n a (take k a) h
      (λ i b. by_test (ltb i (length (take k a)))
      (λ t. sym (get_or-take k a i z (omega (arith, length-take k a, ltb-true i (length (take k a)) t))))
      (λ t. f i b t ∙ sym (get_or-eq_default (take k a) z (ltb-false i (length (take k a)) t))))

  pub behind-filled : a ≡ padded z n (take k a) → (i : ℕ) → i < n → ltb i (length (take k a)) ≡ false → get_or a i z ≡ z
  behind-filled q i b t =
      ap (λ (l : List A). get_or l i z) q ∙ padded-at z n (take k a) i b
      ∙ get_or-eq_default (take k a) z (ltb-false i (length (take k a)) t)
