-- What fits the table: the three things that the test of a field asks. Assumes nothing.
use Prim.Native.Nat.{ℕ, ◌≤◌}
use mathlib.Core.Bool.{false, ◌||◌}
use mathlib.Core.Path.{◌≡◌}
use lib.Dec.{ltb}
use borrow.Author.Tests.{ltb-false}
use Rattle.words.proofs.Tests.{neither_left, neither_right}
use Rattle.message.specs.Table.{row_of, against, at_fault}

-- L and content are not against the table
pub record Agrees (i l n : ℕ) : Type 0 where
  pub least : (row_of i).least ≤ l
  pub greatest : l ≤ (row_of i).greatest
  pub content : at_fault i n ≡ false

pub agrees : (i l n : ℕ) → against i l n ≡ false → Agrees i l n
unfolding against
agrees i l n e =
    let lengths : (ltb l (row_of i).least || ltb (row_of i).greatest l) ≡ false = neither_left _ (at_fault i n) e in
    record {
      least = ltb-false l (row_of i).least (neither_left _ (ltb (row_of i).greatest l) lengths);
      greatest = ltb-false (row_of i).greatest l (neither_right (ltb l (row_of i).least) _ lengths);
      content = neither_right (ltb l (row_of i).least || ltb (row_of i).greatest l) _ e;
    }
