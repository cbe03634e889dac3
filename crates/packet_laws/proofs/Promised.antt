-- The same through the promises of the code. Assumes nothing.
use Prim.Native.Nat.{ℕ, ◌+◌, ◌≤◌}
use native.Mathlib.Nat.{zero-add}
use native.Mathlib.Omega.{arith}
use mathlib.Core.Bool.{true, not}
use mathlib.Core.Path.{◌≡◌, ap, sym, ◌∙◌}
use mathlib.Core.List.{List}
use lib.Dec.{ltb}
use lib.ListN.{length, take, drop}
use lib.Seq.{take-append_seam, drop-append_seam}
use borrow.Author.Tests.{le-ltb, not-false}
use Rattle.words.specs.Choice.{when◌then◌else◌}
use Rattle.octets.specs.Octets.{over}
use Rattle.message.specs.Answers.{refused, result, refusal_number}
use Rattle.message.specs.Message.{Said, said}
use Rattle.message.specs.declared.Message.{Message}
use Rattle.std.specs.Prelude.{Result, Ok}
use Rattle.message.specs.declared.Refusal.{Refusal}
use Rattle.reading.specs.Reading.{Reads, reading_answer}
use Rattle.writing.specs.Wire.{wire}
use Rattle.readable.specs.Readable.{readable}
use Rattle.writing.specs.Writing.{writing, written, writing_answer}
use Rattle.packet_laws.specs.Again.{ReadsAs, IsRead, WriteThenRead, RefusedLeavesRoom, RestUntouched, ReadThenWrite}
use Rattle.header.proofs.Openings.{passed}
use Rattle.packet_laws.proofs.Back.{read_back}
use Rattle.packet_laws.proofs.Again.{read_is_written}
use Rattle.message.proofs.Answers.{told_one}

-- a reader's answer where a message reads so
is_read : (s : List ℕ) (what : Said) (q : Result Message Refusal) → ReadsAs s what → Reads s q → IsRead s q what
is_read s what q h p = record { message = h.message; read = told_one q (Ok h.message) (p ∙ h.read); same = h.same }

-- a writer that answers n: its message is readable, n is all its octets, and they stand at the front of the room
record Wrote (m : Message) (src room : List ℕ) (n : ℕ) : Type 0 where
  accepted : readable m src ≡ true
  octets : take n (written m src room) ≡ wire (said m src)
  behind : drop n (written m src room) ≡ drop n room

front : (xs room : List ℕ) → take (length xs) (over room 0 xs) ≡ xs
unfolding over
front xs room = take-append_seam xs (drop (0 + length xs) room)

behind : (xs room : List ℕ) → drop (length xs) (over room 0 xs) ≡ drop (length xs) room
unfolding over
behind xs room = drop-append_seam xs (drop (0 + length xs) room) ∙ rw zero-add

wrote : (m : Message) (src room : List ℕ) (n : ℕ) → result n ≡ writing m src (length room) → Wrote m src room n
unfolding writing written
wrote m src room n e =
    let w : List ℕ = wire (said m src) in
    let a = passed (not (readable m src)) (refused 12) _ (result n) (λ q. cc) (sym e) in
    let b = passed (ltb (length room) (length w)) (refused 13) (result (length w)) (result n) (λ q. cc) a.1 in
    let l : length w ≡ n = cc b.1 in
    record { accepted = not-false (readable m src) a.0; octets = rw (← e, ← l) (front w room); behind = rw (← e, ← l) (behind w room) }

pub write_then_read : WriteThenRead
write_then_read m src room room' r n q p e z =
    let w = wrote m src room n (sym (ap writing_answer e) ∙ p.0) in
    let t : take n room' ≡ wire (said m src) = ap (take n) p.1 ∙ w.octets in
    rw t (is_read (wire (said m src)) (said m src) q (read_back m src w.accepted) (rw t at z))

pub refusal_writes_nothing : RefusedLeavesRoom
unfolding written
refusal_writes_nothing m src room room' r why p e =
    let told : writing m src (length room) ≡ refused (refusal_number why) = sym p.0 ∙ ap writing_answer e in
    p.1 ∙ rw told

pub rest_untouched : RestUntouched
rest_untouched m src room room' r n p e =
    let w = wrote m src room n (sym (ap writing_answer e) ∙ p.0) in
    ap (drop n) p.1 ∙ w.behind

-- a writer of a readable message that has room for it
writes : (m : Message) (src : List ℕ) (room : ℕ) → readable m src ≡ true → length (wire (said m src)) ≤ room
    → writing m src room ≡ result (length (wire (said m src)))
unfolding writing when◌then◌else◌
writes m src room e h = rw (e, le-ltb room (length (wire (said m src))) h)

pub read_then_write : ReadThenWrite
read_then_write s room room' q m r p e h wp =
    let a = read_is_written s m (sym p ∙ ap reading_answer e) in
    let n : ℕ = length (wire (said m s)) in
    let l : n ≤ length room = omega (arith, a.no_longer) in
    let wr : r ≡ Ok n = told_one r (Ok n) (wp.0 ∙ writes m s (length room) a.accepted l) in
    record { count = n; wrote = wr; read_again = λ q' z. write_then_read m s room room' r n q' wp wr z }
