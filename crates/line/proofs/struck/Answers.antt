-- `line::struck` meets its contract. The invariant says what is kept of those seen so far. Assumes nothing.
use Prim.Native.Nat.{◌+◌, ◌≤◌, ◌<◌}
use mathlib.Core.Bool.{false}
use mathlib.Core.List.{List, ◌++◌, ◌∷◌, []}
use mathlib.Core.Path.{◌≡◌, refl, ap, sym, ◌∙◌}
use native.Mathlib.Omega.{arith}
use lib.ListN.{length-append, length, take, get_or}
use lib.Seq.{take_all}
use Rattle.line.specs.declared.Entry.{Entry}
use Rattle.line.specs.Line.{empty, waiting, without, line_of}
use Rattle.line.proofs.Laws.{line_is, waiting-line_of, without_le, padded, padded-next, without_struck, without_kept}
use Rattle.line.proofs.struck.Goals.{then-not-has, else-not-has}
use Rattle.line.proofs.struck.Goals as goal

pub loop-e-init : goal.loop-e-init
unfolding without
loop-e-init c = record { number = refl; within = omega arith; kept = refl }

pub loop-e-preserved : goal.loop-e-preserved
loop-e-preserved c =
    let s = c.args.seats in
    let w = waiting c.args.line in
    let i = c.loop-e.e-index in
    let before = c.loop-e.invariant in
    let items = c.waiting-e-items.ensures.0 in
    let h : i < length w = rw items at c.loop-e-test.true in
    let x = get_or w i empty in
    let k = without s (take i w) in
    let e : get_or c.waiting-e-items.result.now i empty ≡ x = ap (λ (l : List Entry). get_or l i empty) items in
    let seat : c.has.result ≡ get_or s x.seat false = c.has.ensures ∙ ap (λ (y : Entry). get_or s y.seat false) e in
    let m : length k < 15 = omega (arith, c.waiting-e-items.ensures.1) in
    elim c.if-not-has.branch [
      | then-not-has v ↦ let q : without s (take (i + 1) w) ≡ k ++ (x ∷ []) = without_kept s w i h (sym seat ∙ v.if-not-has.true) in
          record {
            number = rw (v.len-is, q, length-append) (omega arith);
            within = rw v.len-is (omega arith);
            kept = v.entries-is ∙ padded-next _ k _ _ x before.kept before.number e m ∙ ap padded (sym q);
          }
      | else-not-has v ↦ let q : without s (take (i + 1) w) ≡ k = without_struck s w i h (sym seat ∙ v.if-not-has.false) in
          record {
            number = v.len-is ∙ before.number ∙ ap length (sym q);
            within = rw v.len-is (omega arith);
            kept = v.entries-is ∙ before.kept ∙ ap padded (sym q);
          }
    ]

pub returns : goal.returns
returns c =
    let s = c.args.seats in
    let w = waiting c.args.line in
    let n : length w ≤ c.loop-e.e-index = rw c.waiting-e-items.ensures.0 at c.loop-e-test.false in
    let t : take c.loop-e.e-index w ≡ w = take_all _ w n in
    let few : length (without s w) ≤ 15 =
    omega (arith, without_le s w, ap length c.waiting-e-items.ensures.0, c.waiting-e-items.ensures.1) in
    let q : record { entries = c.loop-e.entries; len = c.loop-e.len } ≡ line_of (without s w) =
    line_is _ _ _ (rw t at c.loop-e.invariant.kept) (rw t at c.loop-e.invariant.number ∙ sym (ap length (take_all 15 (without s w) few))) in
    (q, ap waiting q ∙ waiting-line_of (without s w) few)
