-- Octets written over a room, one run after the other.
--     over-two     two runs, the second where the first ends, are one run
--     over_more    the same, as grind applies it
--     run          the same, for a room that is known by equations
--     over-before  the same again, where the first is written last
--     over-next    one octet more, stored where a run ends
--     length_over  the room keeps its length
--     part-next    a part with one octet more
--     over_again   a part laid from some octet on, over its own first octets, is the whole part
--     over_block   a part copied through a block of its own
-- Assumes nothing.
use Prim.Native.Nat.{ℕ, ◌+◌, ◌-◌, ◌≤◌, ◌<◌}
use native.Mathlib.Nat.{add-zero, add_assoc}
use native.Mathlib.Numerals.{add-one}
use native.Mathlib.Omega.{arith}
use mathlib.Core.Path.{◌≡◌, sym, ap, ◌∙◌}
use mathlib.Core.List.{List, [], ◌∷◌, ◌++◌, append_assoc, append-nil}
use lib.ListN.{length, get_or, take, drop, set, replicate, length-append, length-drop, take-append-drop, replicate-append-replicate}
use lib.Seq.{take_at, take-add, drop-append-add, drop-drop, set_split, take-suc, get_or-drop, length-take-le, append_snoc, take-append-le}
use lib.Seq.{take-take, drop_at}
use Rattle.octets.specs.Octets.{over, part}

pub over_none : (room : List ℕ) (at : ℕ) → over room at [] ≡ room
unfolding over
over_none room at = simp (add-zero, append-nil, take-append-drop)

pub head_length : (room : List ℕ) (at : ℕ) (xs : List ℕ) → at ≤ length room → length (take at room ++ xs) ≡ at + length xs
head_length room at xs h = simp (length-append, length-take-le at room h)

pub length_over : (room : List ℕ) (at : ℕ) (xs : List ℕ) → at + length xs ≤ length room → length (over room at xs) ≡ length room
unfolding over
length_over room at xs h =
    let h' : at ≤ length room = omega arith in
    simp (length-append, length-take-le at room h', length-drop) (omega arith)

behind : (p q : List ℕ) (n k : ℕ) → length p ≡ n → drop (n + k) (p ++ q) ≡ drop k q
behind p q n k e = rw (← e) (drop-append-add p q k)

pub over-two : (room : List ℕ) (at : ℕ) (xs ys : List ℕ) → at ≤ length room
    → over (over room at xs) (at + length xs) ys ≡ over room at (xs ++ ys)
unfolding over
over-two room at xs ys h =
    let p : List ℕ = take at room ++ xs in
    let q : List ℕ = drop (at + length xs) room in
    let e : length p ≡ at + length xs = head_length room at xs h in
    rw (take_at p q (at + length xs) e, behind p q (at + length xs) (length ys) e, drop-drop)
    (simp (length-append, append_assoc, add_assoc))

pub over_more : (room xs ys : List ℕ) (at n : ℕ) → n ≡ at + length xs → at ≤ length room →
    over (over room at xs) n ys ≡ over room at (xs ++ ys)
over_more room xs ys at n e h = rw e (over-two room at xs ys h)

pub run : (room r r' : List ℕ) (at n : ℕ) (xs ys : List ℕ) → at ≤ length room → length xs ≡ n → r ≡ over room at xs →
    r' ≡ over r (at + n) ys
    → r' ≡ over room at (xs ++ ys)
run room r r' at n xs ys h l e q = q ∙ rw (e, ← l) (over-two room at xs ys h)

pub over-before : (room : List ℕ) (at n : ℕ) (xs ys : List ℕ) → length xs ≡ n → at + n ≤ length room
    → over (over room (at + n) ys) at xs ≡ over room at (xs ++ ys)
unfolding over
over-before room at n xs ys l h =
    let tl : length (take (at + n) room) ≡ at + n = length-take-le (at + n) room h in
    let e1 : take at (take (at + n) room ++ ys ++ drop (at + n + length ys) room) ≡ take at room =
    rw append_assoc (take-append-le at (take (at + n) room) _ (rw tl (omega arith)) ∙ take-take at (at + n) room (omega arith)) in
    let e2 : drop (at + n) (take (at + n) room ++ ys ++ drop (at + n + length ys) room) ≡ ys ++ drop (at + n + length ys) room =
    rw append_assoc (drop_at (take (at + n) room) _ (at + n) tl) in
    rw (l, e1, e2, length-append, l) (simp (append_assoc, add_assoc))

pub over-one : (room : List ℕ) (at x : ℕ) → at < length room → set room at x ≡ over room at (x ∷ [])
unfolding over
over-one room at x h = set_split room at x h ∙ simp (append_snoc, add-one)

pub over-next : (room : List ℕ) (at : ℕ) (xs : List ℕ) (x : ℕ) → at + length xs < length room
    → set (over room at xs) (at + length xs) x ≡ over room at (xs ++ (x ∷ []))
over-next room at xs x h =
    let l : length (over room at xs) ≡ length room = length_over room at xs (omega arith) in
    over-one (over room at xs) (at + length xs) x (omega arith) ∙ over-two room at xs (x ∷ []) (omega arith)

-- a turn of a loop that writes a run: xs is written, of i octets, and x is stored behind them
pub over_turn : (room₀ room : List ℕ) (at i x : ℕ) (xs : List ℕ) → length xs ≡ i → at + i < length room₀ → room ≡ over room₀ at xs
    → set room (at + i) x ≡ over room₀ at (xs ++ (x ∷ []))
over_turn room₀ room at i x xs l h e = rw (e, ← l) (over-next room₀ at xs x (omega arith))

pub length_part : (s : List ℕ) (from count : ℕ) → from + count ≤ length s → length (part s from count) ≡ count
unfolding part
length_part s from count h = length-take-le count (drop from s) (simp length-drop (omega arith))

pub part-next : (s : List ℕ) (from i : ℕ) → from + i < length s → part s from (i + 1) ≡ part s from i ++ (get_or s (from + i) 0 ∷ [])
unfolding part
part-next s from i h =
    let h' : i < length (drop from s) = simp length-drop (omega arith) in
    rw add-one (take-suc (drop from s) i 0 h' ∙ ap (λ (x : ℕ). take i (drop from s) ++ (x ∷ [])) (get_or-drop from s i 0))

pub zeros_next : (i : ℕ) → replicate {A = ℕ} (i + 1) 0 ≡ replicate i 0 ++ (0 ∷ [])
zeros_next i = sym (replicate-append-replicate {A = ℕ} i 1 0)

pub part_join : (s : List ℕ) (from k n : ℕ) → part s from k ++ part s (from + k) n ≡ part s from (k + n)
unfolding part
part_join s from k n = sym (take-add k n (drop from s) ∙ ap (λ (r : List ℕ). take k (drop from s) ++ take n r) (drop-drop k from s))

-- octets written over others, from the same place on and at least as far
over-over : (room : List ℕ) (at : ℕ) (xs ys : List ℕ) → at ≤ length room → length xs ≤ length ys →
    over (over room at xs) at ys ≡ over room at ys
unfolding over
over-over room at xs ys h l =
    let e : length (take at room) ≡ at = length-take-le at room h in
    let k : ℕ = length ys - length xs in
    let q : List ℕ = drop (at + length xs) room in
    let d : at + length ys ≡ at + length xs + k = omega arith in
    let b : drop (at + length ys) (take at room ++ xs ++ q) ≡ drop (at + length ys) room =
    rw d (behind (take at room ++ xs) q (at + length xs) k (head_length room at xs h) ∙ drop-drop k (at + length xs) room) in
    ap (λ (r : List ℕ). r ++ ys ++ drop (at + length ys) (take at room ++ xs ++ q))
    (ap (take at) (append_assoc (take at room) xs q) ∙ take_at (take at room) (xs ++ q) at e)
    ∙ ap (λ (r : List ℕ). take at room ++ ys ++ r) b

pub over_again : (room s : List ℕ) (at from j k n : ℕ) {count : ℕ} {room₁ room₂ : List ℕ} → k + n ≡ count → k ≤ j → j ≤ count
    → at + count ≤ length room → from + count ≤ length s
    → room₁ ≡ over room at (part s from j) → room₂ ≡ over room₁ (at + k) (part s (from + k) n) → room₂ ≡ over room at (part s from count)
over_again room s at from j k n {count} c p q h l e₁ e₂ =
    let xs : List ℕ = part s from k in
    let ys : List ℕ = part s (from + k) (j - k) in
    let zs : List ℕ = part s (from + k) n in
    let e : length xs ≡ k = length_part s from k (omega arith) in
    let b : length ys ≡ j - k = length_part s (from + k) (j - k) (omega arith) in
    let d : length zs ≡ n = length_part s (from + k) n (omega arith) in
    let w : length (over room at xs) ≡ length room = length_over room at xs (omega arith) in
    let behind_xs : (qs : List ℕ) → over (over room at xs) (at + k) qs ≡ over room at (xs ++ qs) =
    λ qs. ap (λ (m : ℕ). over (over room at xs) (at + m) qs) (sym e) ∙ over-two room at xs qs (omega arith) in
    let t : over (over room at xs) (at + k) ys ≡ over room at (part s from j) =
    behind_xs ys ∙ ap (over room at) (part_join s from k (j - k) ∙ ap (part s from) (let d' : k + (j - k) ≡ j = omega arith in d')) in
    e₂
    ∙ ap (λ (r : List ℕ). over r (at + k) zs) (e₁ ∙ sym t)
    ∙ over-over (over room at xs) (at + k) ys zs (omega arith) (omega arith)
    ∙ behind_xs zs
    ∙ ap (over room at) (part_join s from k n ∙ ap (part s from) c)

-- a part laid at the start of a block, and taken from there again
pub over_block : (room s block : List ℕ) (at from n : ℕ) → from + n ≤ length s
    → over room at (part (over block 0 (part s from n)) 0 n) ≡ over room at (part s from n)
unfolding over part
over_block room s block at from n h =
    let xs : List ℕ = part s from n in
    let l : length xs ≡ n = length_part s from n h in
    ap (over room at) (take_at xs (drop (0 + length xs) block) n l)
