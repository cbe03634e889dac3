-- What the code has of the table, by what specs/ has. Assumes nothing.
use Prim.Native.Nat.{ℕ, ◌<◌, ◌≤◌}
use native.Mathlib.Omega.{arith}
use mathlib.Core.Bool.{Bool, true, false, not, ◌&&◌}
use mathlib.Core.List.{List, [], ◌∷◌}
use mathlib.Core.Path.{◌≡◌, refl, ◌∙◌}
use lib.Dec.{eqb, ltb}
use borrow.Author.Tests.{ne_eqb, ltb-true, ltb-false, le-ltb}
use Rattle.std.proofs.lemmas.Bool.Decides.{nat_tests}
use Rattle.words.specs.Below.{and_left, and_right}
use Rattle.words.specs.Choice.{when◌then◌else◌, if_no, by_test}
use Rattle.words.proofs.Tests.{clash}
use Rattle.message.specs.Table.{FieldRow, table, row_in, row_of, listed_in, listed, against, at_fault}

-- the table has no ID from 16 on
under : List FieldRow → Bool
under [] = true
under (r ∷ rows) = ltb r.id 16 && under rows

unlisted : (rows : List FieldRow) (i : ℕ) → under rows ≡ true → 16 ≤ i → listed_in rows i ≡ false
unfolding under listed_in
unlisted [] i e h = refl
unlisted (r ∷ rows) i e h =
    let l : r.id < 16 = ltb-true r.id 16 (and_left _ _ e) in
    if_no (eqb i r.id) true (listed_in rows i) (ne_eqb i r.id (λ q. omega arith))
    ∙ unlisted rows i (and_right (ltb r.id 16) (under rows) e) h

pub unlisted_above : (i : ℕ) → 16 ≤ i → listed i ≡ false
unfolding under
unlisted_above i h = unlisted table i refl h

-- so every ID that it has is below
pub listed_below : (i : ℕ) → listed i ≡ true → i < 16
listed_below i e = by_test (ltb i 16) (λ t. ltb-true i 16 t) (λ t. clash e (unlisted_above i (ltb-false i 16 t)))

-- what a proof about an ID opens
unfoldable pub judging : Type 0
unfolding at_fault listed_in row_in when◌then◌else◌
judging = ℕ

-- the mark tells which IDs the table has
pub mark-tells : (i : ℕ) → not (eqb (row_of i).least 0 && eqb (row_of i).greatest 255) ≡ listed i
unfolding listed_in row_in when◌then◌else◌
mark-tells i = grind (arith, nat_tests)

-- a length that the table has leaves only the content to be at fault
pub content_left : (i l n : ℕ) → (row_of i).least ≤ l → l ≤ (row_of i).greatest → against i l n ≡ at_fault i n
unfolding against
content_left i l n h k = rw (le-ltb l (row_of i).least h, le-ltb (row_of i).greatest l k)
