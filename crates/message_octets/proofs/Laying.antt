-- Octets laid into zeros, one run behind the other, are the message's octets.
--     lays_nothing   a field that is absent is laid already
--     lays_octets    octets written where zeros stand are laid
--     lays_two       two runs, the second where the first ends, are one run
--     held_by_rows   zeros, the rows from 8 on, and at last the head: all 40 octets
-- Assumes nothing.
use Prim.Native.Nat.{ℕ, zero, suc, ◌+◌, ◌-◌, ◌≤◌, ◌<◌}
use native.Mathlib.Nat.{zero-add, add_assoc}
use native.Mathlib.Omega.{arith}
use mathlib.Core.Bool.{Bool, true, false}
use mathlib.Core.Path.{◌≡◌, refl, sym, ap, ◌∙◌}
use mathlib.Core.List.{List, ◌∷◌, ◌++◌, append_assoc}
use lib.Dec.{eqb}
use lib.ListN.{length, take, drop, replicate, length-append, length-drop, length-replicate, take-append-drop, replicate-append-replicate}
use lib.Seq.{take_at, drop_at, take-take, take-add, drop-drop, length-take-le}
use Rattle.words.specs.Choice.{one}
use Rattle.octets.specs.Octets.{be32, over, part, octets16, octets32}
use Rattle.octets.proofs.Over.{length_over, head_length, over-two, over-before}
use Rattle.message.specs.Types.{type_number}
use Rattle.std.specs.Prelude.{is_some}
use Rattle.message.specs.declared.MessageType.{MessageType}
use Rattle.message.specs.declared.Message.{Message}
use Rattle.header.specs.Header.{ssrc_place, ack_bit}
use Rattle.reading.specs.Reading.{message_at}
use Rattle.message_octets.specs.Held.{worth_if, which, head_octets, first_octets, next_octets, part_octets, part_in_four, held_octets}
use Rattle.message_octets.specs.Laying.{Blank, Lays, first_worth, next_worth, parts_worth, head_by}
use Rattle.message_octets.proofs.Bits.{which_is}
use Rattle.message_octets.specs.Places.{priority_place, permission_place, phrase_place, message_size}

take_zeros : (n k : ℕ) → n ≤ k → take n (replicate {A = ℕ} k 0) ≡ replicate n 0
take_zeros zero k h = refl
take_zeros (suc n) zero h = absurd (omega arith)
take_zeros (suc n) (suc k) h = ap (λ (xs : List ℕ). 0 ∷ xs) (take_zeros n k (omega arith))

drop_zeros : (n k : ℕ) → drop n (replicate {A = ℕ} (n + k) 0) ≡ replicate k 0
drop_zeros n k = rw (← (replicate-append-replicate {A = ℕ} n k 0)) (drop_at (replicate n 0) (replicate k 0) n (length-replicate n 0))

blank_same : (room : List ℕ) (at n : ℕ) → Blank room at → at + n ≤ message_size → over room at (replicate n 0) ≡ room
unfolding over part
blank_same room at n b h =
    let e : take n (drop at room) ≡ replicate n 0 =
    sym (take-take n (message_size - at) (drop at room) (omega arith)) ∙ ap (take n) b.zeros
    ∙ take_zeros n (message_size - at) (omega arith) in
    rw (length-replicate {A = ℕ} n 0, ← e, append_assoc, ← (drop-drop n at room), take-append-drop n (drop at room))
    (take-append-drop at room)

blank_on : (room : List ℕ) (at : ℕ) (xs : List ℕ) → Blank room at → at + length xs ≤ message_size → Blank (over room at xs) (at + length xs)
unfolding over part
blank_on room at xs b h =
    let l : message_size ≤ length room = b.long in
    let k : ℕ = message_size - (at + length xs) in
    let sum : message_size - at ≡ length xs + k = omega arith in
    let z : take (length xs + k) (drop at room) ≡ replicate (length xs + k) 0 = rw sum at b.zeros in
    let front : length (take (length xs) (drop at room)) ≡ length xs =
    length-take-le (length xs) (drop at room) (simp length-drop (omega arith)) in
    record {
      long = rw (length_over room at xs (omega arith)) l;
      zeros =
          rw (
            drop_at (take at room ++ xs) (drop (at + length xs) room) (at + length xs) (head_length room at xs (omega arith)),
            ← (drop-drop (length xs) at room),
          )
          (sym (drop_at (take (length xs) (drop at room)) (take k (drop (length xs) (drop at room))) (length xs) front)
          ∙ ap (drop (length xs)) (sym (take-add (length xs) k (drop at room)) ∙ z)
          ∙ drop_zeros (length xs) k);
    }

module _ (room : List ℕ) (at : ℕ) (xs : List ℕ) (b : Blank room at) where
  pub lays_octets : (after : List ℕ) → at + length xs ≤ message_size → after ≡ over room at xs → Lays room at xs after
  lays_octets after h e = record { is = e; blank = rw e (blank_on room at xs b h) }

  pub lays_nothing : (n : ℕ) → at + n ≤ message_size → xs ≡ replicate n 0 → Lays room at xs room
  lays_nothing n h e =
      let l : length xs ≡ n = ap length e ∙ length-replicate n 0 in
      lays_octets room (rw l h) (rw e (sym (blank_same room at n b h)))

  pub lays_two : (ys after last : List ℕ) → Lays room at xs after → (n : ℕ) → length xs ≡ n → Lays after (at + n) ys last →
      at + n ≤ message_size
      → Lays room at (xs ++ ys) last
  lays_two ys after last p n l q h =
      let long : message_size ≤ length room = b.long in
      let q' : Lays after (at + length xs) ys last = rw l q in
      record {
        is = q'.is ∙ rw p.is (over-two room at xs ys (omega arith));
        blank = rw (length-append xs ys, ← (add_assoc at (length xs) (length ys))) q'.blank;
      }

blank_later : (room : List ℕ) (at n : ℕ) → Blank room at → at + n ≤ message_size → Blank room (at + n)
blank_later room at n b h = rw (length-replicate {A = ℕ} n 0) at (lays_nothing room at (replicate n 0) b n h refl).blank

pub blank_room : (room after : List ℕ) → message_size ≤ length room → after ≡ over room 0 (replicate message_size 0) →
    Blank after priority_place
unfolding over part
blank_room room after h e =
    let l : length (over room 0 (replicate message_size 0)) ≡ length room = length_over room 0 (replicate message_size 0) h in
    blank_later after 0 priority_place
    (rw e (record { long = rw l h; zeros = take_at (replicate message_size 0) (drop message_size room) message_size refl })) (omega arith)

-- as many octets written again
written_again : (room xs ys : List ℕ) → length xs ≡ length ys → over (over room 0 xs) 0 ys ≡ over room 0 ys
unfolding over
written_again room xs ys l =
    simp zero-add (ap (λ (zs : List ℕ). ys ++ zs) (drop_at xs (drop (length xs) room) (length ys) l ∙ ap (λ (n : ℕ). drop n room) l))

-- the bits, row by row
worth_most : (b : Bool) (w : ℕ) → worth_if b w ≤ w
worth_most true w = omega arith
worth_most false w = omega arith

flag_bit : (n : ℕ) → n < 2 → one (eqb n 1) ≡ n
flag_bit zero h = refl
flag_bit (suc zero) h = refl
flag_bit (suc (suc n)) h = absurd (omega arith)

pub which_by_rows : (m : Message) → parts_worth (next_worth (first_worth m) m) m ≡ which m
unfolding first_worth next_worth parts_worth
which_by_rows m = let e = which_is m in omega (arith, e)

pub first_most : (m : Message) → first_worth m ≤ 4111
unfolding first_worth
first_most m =
    omega (
      arith,
      worth_most (is_some m.priority) 1,
      worth_most (is_some m.message_type) 4096,
      worth_most (is_some m.duration) 2,
      worth_most (is_some m.cause) 4,
      worth_most (is_some m.queue) 8,
    )

pub next-most : (has : ℕ) (m : Message) → next_worth has m ≤ has + 25888
unfolding next_worth
next-most has m =
    omega (
      arith,
      worth_most (is_some m.permission) 32,
      worth_most (is_some m.sequence) 256,
      worth_most (is_some m.source) 1024,
      worth_most (is_some m.indicator) 8192,
      worth_most (is_some m.ssrc_field) 16384,
    )

head_is : (k : MessageType) (s : List ℕ) (start : ℕ → ℕ) → head_by k s (which (message_at k s start)) ≡ head_octets (message_at k s start)
unfolding head_by head_octets message_at
head_is k s start =
    ap (λ (n : ℕ). type_number k ∷ n ∷ octets16 (which (message_at k s start)) ++ octets32 (be32 s ssrc_place))
    (sym (flag_bit (ack_bit s) (omega arith)))

pub held_by_rows : (k : MessageType) (s : List ℕ) (start : ℕ → ℕ) (room zeros first next parts all : List ℕ) → message_size ≤ length room
    → zeros ≡ over room 0 (replicate message_size 0) → Lays zeros priority_place (first_octets (message_at k s start)) first
    → Lays first permission_place (next_octets (message_at k s start)) next →
    Lays next phrase_place (part_octets (message_at k s start)) parts
    → all ≡ over parts 0 (head_by k s (which (message_at k s start))) → all ≡ over room 0 (held_octets (message_at k s start))
unfolding held_octets head_octets first_octets next_octets part_octets part_in_four octets16 octets32
held_by_rows k s start room zeros first next parts all h z p q r e =
    let m : Message = message_at k s start in
    let b : Blank zeros priority_place = blank_room room zeros h z in
    let two : Lays zeros priority_place (first_octets m ++ next_octets m) next =
    lays_two zeros priority_place (first_octets m) b (next_octets m) first next p 8 refl q (omega arith) in
    let three : Lays zeros priority_place (first_octets m ++ next_octets m ++ part_octets m) parts =
    lays_two zeros priority_place (first_octets m ++ next_octets m) b (part_octets m) next parts two 20 refl r (omega arith) in
    let long : message_size ≤ length zeros = b.long in
    e ∙ rw (head_is k s start, three.is)
    (over-before zeros 0 8 (head_octets m) (first_octets m ++ next_octets m ++ part_octets m) refl (omega arith)
    ∙ rw z (written_again room (replicate message_size 0) (head_octets m ++ (first_octets m ++ next_octets m ++ part_octets m)) refl))
