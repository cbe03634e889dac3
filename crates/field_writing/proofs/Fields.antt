-- A field's octets as the code lays them: zeros where it ends, and over them ID and length, and the content.
--     field_takes   how many octets they are
--     laid_field    what is left of the zeros are the spare octets and the padding
-- Assumes nothing.
use Prim.Native.Nat.{ℕ, ◌+◌, ◌-◌, ◌≤◌}
use native.Mathlib.Omega.{arith}
use mathlib.Core.List.{List, [], ◌∷◌, ◌++◌, append_assoc}
use mathlib.Core.Path.{◌≡◌, refl, sym, ap, ◌∙◌}
use lib.Seq.{drop-append-add, drop-drop, length-take-le, take-append-le, take-take}
use lib.ListN.{length, take, drop, replicate, length-append, length-replicate, replicate-append-replicate}
use Rattle.octets.specs.Octets.{over, octets16, octets32, Laid}
use Rattle.octets.proofs.Over.{head_length, over-before, over_more, run, length_over}
use Rattle.message.specs.Table.{row_of, padding, padded}
use Rattle.message.proofs.Paddings.{padded_least}
use Rattle.field_writing.specs.Wire.{field_octets}

behind : (p q : List ℕ) (n k : ℕ) → length p ≡ n → drop (n + k) (p ++ q) ≡ drop k q
behind p q n k e = rw (← e) (drop-append-add p q k)

-- octets that are written over altogether leave nothing of themselves
covered : (room : List ℕ) (at p : ℕ) (xs cs : List ℕ) → at ≤ p → p + length xs ≤ at + length cs → at + length cs ≤ length room
    → over (over room p xs) at cs ≡ over room at cs
unfolding over
covered room at p xs cs h l m =
    let e : length (take p room) ≡ p = length-take-le p room (omega arith) in
    let k : ℕ = at + length cs - (p + length xs) in
    let q : List ℕ = drop (p + length xs) room in
    let d : at + length cs ≡ p + length xs + k = omega arith in
    let g : length (take p room ++ xs) ≡ p + length xs = head_length room p xs (omega arith) in
    let front : take at (take p room ++ xs ++ q) ≡ take at room =
    rw append_assoc (take-append-le at (take p room) (xs ++ q) (rw e h) ∙ take-take at p room h) in
    let back : drop (at + length cs) (take p room ++ xs ++ q) ≡ drop (at + length cs) room =
    rw d (behind (take p room ++ xs) q (p + length xs) k g ∙ drop-drop k (p + length xs) room) in
    ap (λ (r : List ℕ). r ++ cs ++ drop (at + length cs) (take p room ++ xs ++ q)) front ∙ ap (λ (r : List ℕ). take at room ++ cs ++ r) back

padding_few : (n : ℕ) → padding n ≤ 3
unfolding padding
padding_few n = omega arith

module _ (i spare count : ℕ) (content : List ℕ) (s : (row_of i).spare ≡ spare) (l : length content ≡ count)
    (p : spare + padding (count + spare) ≡ padding count)
  where
    field_is : ((i ∷ (count + spare) ∷ []) ++ (content ++ replicate (padding count) 0)) ≡ field_octets i content
    unfolding field_octets
    field_is =
        rw (s, l, ← p, ← (replicate-append-replicate {A = ℕ} spare (padding (count + spare)) 0))
        (sym (append_assoc (i ∷ (count + spare) ∷ content) (replicate spare 0) (replicate (padding (count + spare)) 0)))

    pub field_takes : length (field_octets i content) ≡ 2 + count + padding count
    field_takes = rw (← field_is) (simp (length-append, length-replicate, l) (omega arith))

    pub laid_field : {room r₁ r₂ r₃ : List ℕ} (at last end : ℕ) → at + length (field_octets i content) ≤ length room
        → end ≡ at + padded count → last + 4 ≡ end → r₁ ≡ over room last (octets32 0)
        → r₂ ≡ over r₁ at (i ∷ (count + spare) ∷ []) → r₃ ≡ over r₂ (at + 2) content → Laid room at (field_octets i content) r₃ end
    unfolding padded octets32 octets16
    laid_field {room} {r₁} {r₂} {r₃} at last end h e f q₁ q₂ q₃ =
        let z : ℕ = padding count in
        let few : z ≤ 3 = padding_few count in
        let t : length (field_octets i content) ≡ 2 + count + z = field_takes in
        let four : 4 ≤ 2 + count + z = padded_least count in
        let cs : List ℕ = (i ∷ (count + spare) ∷ []) ++ content in
        let n : length cs ≡ 2 + count = omega arith in
        let zeros : ◌≡◌ {A = List ℕ} (0 ∷ 0 ∷ 0 ∷ 0 ∷ []) (replicate (4 - z) 0 ++ replicate z 0) =
        rw (replicate-append-replicate {A = ℕ} (4 - z) z 0)
        (ap (λ (k : ℕ). replicate {A = ℕ} k 0) (let k : 4 ≡ 4 - z + z = omega arith in k)) in
        let under : List ℕ = over room last (replicate (4 - z) 0) in
        let two : r₁ ≡ over under (at + (2 + count)) (replicate z 0) =
        q₁ ∙ ap (over room last) zeros ∙ sym (over_more room (replicate (4 - z) 0) (replicate z 0) last (at + (2 + count))
        (rw length-replicate (omega arith)) (omega arith)) in
        let u : length under ≡ length room = length_over room last (replicate (4 - z) 0) (rw length-replicate (omega arith)) in
        let v : length r₁ ≡ length room = ap length q₁ ∙ length_over room last (0 ∷ 0 ∷ 0 ∷ 0 ∷ []) (omega arith) in
        let both : r₃ ≡ over r₁ at cs = run r₁ r₂ r₃ at 2 (i ∷ (count + spare) ∷ []) content (omega arith) refl q₂ q₃ in
        let before : over (over under (at + (2 + count)) (replicate z 0)) at cs ≡ over under at (cs ++ replicate z 0) =
        over-before under at (2 + count) cs (replicate z 0) n (omega arith) in
        let all : over under at (cs ++ replicate z 0) ≡ over room at (cs ++ replicate z 0) =
        covered room at last (replicate (4 - z) 0) (cs ++ replicate z 0) (omega arith)
        (simp (length-append, length-replicate) (omega arith)) (simp (length-append, length-replicate) (omega arith)) in
        record {
          ends = omega arith;
          stands = both ∙ ap (λ (r : List ℕ). over r at cs) two ∙ before ∙ all ∙ ap (over room at) field_is;
        }

-- four octets that a number lays are zeros where it is 0
pub zeros_there : (after before : List ℕ) (at n : ℕ) → after ≡ over before at (octets32 n) → n ≡ 0 → after ≡ over before at (octets32 0)
zeros_there after before at n laid zero = rw zero at laid
