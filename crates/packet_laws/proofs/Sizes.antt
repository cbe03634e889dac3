-- "The writer puts IDs in ascending order", each once: so the fields with these IDs take no more than all fields take. Assumes nothing.
use Prim.Native.Nat.{ℕ, suc, ◌+◌, ◌≤◌, ◌<◌}
use native.Mathlib.Omega.{arith}
use mathlib.Core.Bool.{true}
use mathlib.Core.Path.{◌≡◌, refl}
use mathlib.Core.List.{List, [], ◌∷◌}
use lib.Dec.{eqb, leb}
use borrow.Author.Tests.{leb-true, eqb-true, ne_eqb}
use Rattle.words.specs.Below.{and_left, and_right}
use Rattle.words.specs.Choice.{when◌then◌else◌, if_no, by_test}
use Rattle.message.specs.Message.{Field}
use Rattle.message.specs.Table.{padded}
use Rattle.field.specs.declared.FieldFound.{FieldFound}
use Rattle.packet_laws.proofs.Walk.{ascends}
use Rattle.packet_laws.proofs.Judged.{size_of, total}
use Rattle.packet_laws.proofs.Kept.{sum}

-- one ID's size is another now
abbrev but : ℕ → ℕ → (ℕ → ℕ) → ℕ → ℕ
but j n size i = when eqb i j then n else size i

-- for IDs above it the sum stays; for any it grows by that size at most
sum-above : (j n : ℕ) (size : ℕ → ℕ) (least : ℕ) (fs : List Field) → ascends least fs ≡ true → j < least
    → sum (but j n size) fs ≡ sum size fs
unfolding ascends sum
sum-above j n size least [] a l = refl
sum-above j n size least (f ∷ fs) a l =
    let h : least ≤ f.id = leb-true least f.id (and_left (leb least f.id) (ascends (suc f.id) fs) a) in
    let up : ascends (suc f.id) fs ≡ true = and_right (leb least f.id) _ a in
    let r : sum (but j n size) fs ≡ sum size fs = sum-above j n size (suc f.id) fs up (omega arith) in
    rw (if_no (eqb f.id j) n (size f.id) (ne_eqb f.id j (λ q. omega arith)), r)

sum_once : (j n : ℕ) (size : ℕ → ℕ) (least : ℕ) (fs : List Field) → ascends least fs ≡ true → sum (but j n size) fs ≤ n + sum size fs
unfolding ascends sum when◌then◌else◌
sum_once j n size least [] a = omega arith
sum_once j n size least (f ∷ fs) a =
    let up : ascends (suc f.id) fs ≡ true = and_right (leb least f.id) _ a in
    by_test (eqb f.id j)
    (λ e. rw (e, sum-above j n size (suc f.id) fs up (omega (arith, eqb-true f.id j e))) (omega arith))
    (λ e. rw e (omega (arith, sum_once j n size (suc f.id) fs up)))

sum_none : (fs : List Field) → sum (λ i. 0) fs ≡ 0
unfolding sum
sum_none [] = refl
sum_none (f ∷ fs) = omega (arith, sum_none fs)

pub firsts_within : (found : List FieldFound) (least : ℕ) (fs : List Field) → ascends least fs ≡ true → sum (size_of found) fs ≤ total found
unfolding size_of total
firsts_within [] least fs a = omega (arith, sum_none fs)
firsts_within (f ∷ found) least fs a =
    omega (arith, sum_once f.id (padded f.len) (size_of found) least fs a, firsts_within found least fs a)
