-- `line::insert` meets its contract. The invariant says which places are filled. Assumes nothing.
use Prim.Native.Nat.{ℕ, ◌<◌, ◌≤◌, min}
use mathlib.Core.List.{List, ◌++◌, ◌∷◌}
use mathlib.Core.Path.{◌≡◌, refl, ap, sym, ◌∙◌}
use native.Mathlib.Omega.{arith}
use lib.ListN.{length-take, length, take, drop}
use Rattle.std.proofs.lemmas.List.{take_min}
use Rattle.line.specs.Line.{line_of}
use Rattle.line.specs.declared.Entry.{Entry}
use Rattle.line.proofs.Laws.{padded, padded-next, put_length, next-taken, line_is, padded-front}
use Rattle.line.proofs.insert.Goals as goal

pub loop-place-init : goal.loop-place-init
loop-place-init c = refl

pub loop-place-preserved : goal.loop-place-preserved
loop-place-preserved c =
    let w = c.waiting-those.result.now in
    let es = take c.args.k w ++ c.args.e ∷ drop c.args.k w in
    let i = c.loop-place.place in
    let k : c.args.k ≤ length w = omega (arith, ap length c.waiting-those.ensures.0, c.requires) in
    let h : i < length es = omega (arith, put_length w c.args.k c.args.e k) in
    let m : i ≡ length (take i es) = rw length-take (omega arith) in
    rw (next-taken es i h)
    (padded-next c.loop-place.entries (take i es) i _ _ c.loop-place.invariant m c.entry_after.ensures (omega arith))

pub returns : goal.returns
returns c =
    let w = c.waiting-those.result.now in
    let es = take c.args.k w ++ c.args.e ∷ drop c.args.k w in
    let k : c.args.k ≤ length w = omega (arith, ap length c.waiting-those.ensures.0, c.requires) in
    let n : c.min-len.result ≡ min 15 (length es) = omega (arith, put_length w c.args.k c.args.e k) in
    let i : c.loop-place.place ≡ c.min-len.result = omega arith in
    line_is _ es _ (c.loop-place.invariant ∙ ap padded (ap (λ (j : ℕ). take j es) (i ∙ n) ∙ take_min 15 es) ∙ padded-front es)
    (n ∙ sym (length-take 15 es))
    ∙ ap (λ (l : List Entry). line_of (take c.args.k l ++ c.args.e ∷ drop c.args.k l)) c.waiting-those.ensures.0
