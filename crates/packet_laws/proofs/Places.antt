-- Where a field's octets stand in a packet, the reader makes of them what was written: a law for each kind of content.
-- Assumes nothing.
use Prim.Native.Nat.{ℕ, ◌+◌, ◌-◌, ◌<◌}
use native.Mathlib.Nat.{add-zero}
use native.Mathlib.Omega.{arith}
use mathlib.Core.Path.{◌≡◌, ap, ◌∙◌}
use mathlib.Core.List.{List, [], ◌∷◌, ◌++◌, append_assoc}
use Rattle.std.specs.Prelude.{Option, None, Some, option_map}
use lib.Dec.{eqb}
use lib.ListN.{length, get_or, drop}
use lib.Seq.{take-append_seam}
use borrow.Author.Tests.{ne_eqb}
use Rattle.words.specs.Choice.{when◌then◌else◌, if_no}
use Rattle.octets.specs.Octets.{be16, octets16, octets32, part}
use Rattle.message.specs.Table.{row_of, length_of}
use Rattle.message.specs.Message.{of_octet, of_word, of_number, of_queue, of_part, of_cause}
use Rattle.message.specs.declared.QueueInfo.{QueueInfo}
use Rattle.message.specs.declared.Part.{Part}
use Rattle.message.specs.declared.RejectCause.{RejectCause}
use Rattle.reading.specs.Reading.{there, octet_at, word_at, number_at, queue_at, part_at, cause_at}
use Rattle.octets.proofs.Numbers.{seen, first_seen, be16_first, be32_first, drop-seen, be16_back, be32_back}

-- a field of this ID and content stands in s: its L, then its content from a place on
pub record There (s : List ℕ) (i : ℕ) (content : List ℕ) (at : ℕ) : Type 0 where
  pub behind : List ℕ
  pub starts : 0 < at
  pub before : get_or s (at - 1) 0 ≡ length_of i content
  pub octets : drop at s ≡ content ++ behind

-- so does what a message has there; nothing stands at 0
abbrev pub Stands : List ℕ → ℕ → Option (List ℕ) → ℕ → Type 0
Stands s i None at = at ≡ 0
Stands s i (Some content) at = There s i content at

-- this, or else that. A message has each ID once, so behind each field there is nothing else.
abbrev pub or_else : Option (List ℕ) → Option (List ℕ) → Option (List ℕ)
or_else None o = o
or_else (Some c) o = Some c

pub given : {A : Type 0} (at : ℕ) (a b : A) → 0 < at → (when eqb at 0 then a else b) ≡ b
given at a b h = if_no (eqb at 0) a b (ne_eqb at 0 (λ q. omega arith))

-- the octets that stand there are what is made of them
field_back : {X : Type 0} (octets : X → List ℕ) (s : List ℕ) (i at : ℕ) (x : X) (o : Option X)
    → ((y : X) → There s i (octets y) at → octets x ≡ octets y) → Stands s i (or_else (option_map octets o) None) at
    → option_map octets (there at x) ≡ option_map octets o
unfolding when◌then◌else◌
field_back octets s i at x None same h = rw h
field_back octets s i at x (Some y) same h = rw (given at None (Some x) h.starts, same y h)

pub octet_back : (s : List ℕ) (i at : ℕ) (o : Option ℕ) → Stands s i (or_else (of_octet o) None) at → of_octet (octet_at s at) ≡ of_octet o
unfolding octet_at
octet_back s i at o h = field_back (λ n. n ∷ []) s i at _ o (λ n t. rw (first_seen s _ at t.octets)) h

pub word_back : (s : List ℕ) (i at : ℕ) (o : Option ℕ) → Stands s i (or_else (of_word o) None) at → of_word (word_at s at) ≡ of_word o
unfolding word_at
word_back s i at o h = field_back octets16 s i at _ o (λ n t. rw (be16_first s _ at t.octets, be16_back n t.behind)) h

pub number_back : (s : List ℕ) (i at : ℕ) (o : Option ℕ) → Stands s i (or_else (of_number o) None) at →
    of_number (number_at s at) ≡ of_number o
unfolding number_at
number_back s i at o h = field_back octets32 s i at _ o (λ n t. rw (be32_first s _ at t.octets, be32_back n t.behind)) h

pub queue_back : (s : List ℕ) (i at : ℕ) (o : Option QueueInfo) → Stands s i (or_else (of_queue o) None) at →
    of_queue (queue_at s at) ≡ of_queue o
unfolding queue_at
queue_back s i at o h =
    field_back (λ q. q.place ∷ q.priority ∷ []) s i at _ o (λ q t. rw (first_seen s _ at t.octets, seen s _ at 1 t.octets)) h

-- of a field with no spare octets, L is all that its content has
pub part_back : (s src : List ℕ) (i at : ℕ) (o : Option Part) → (row_of i).spare ≡ 0 → Stands s i (or_else (of_part src o) None) at
    → of_part s (part_at s at) ≡ of_part src o
unfolding part_at when◌then◌else◌ part
part_back s src i at None e h = rw h
part_back s src i at (Some p) e h =
    let read : Part = record { from = at; count = get_or s (at - 1) 0 } in
    rw (given at None (Some read) h.starts, h.before, e, add-zero, h.octets) (ap Some (take-append_seam (part src p.from p.count) h.behind))

phrase_back : (s : List ℕ) (at n : ℕ) (c rest : List ℕ) → drop at s ≡ octets16 n ++ c ++ rest → part s (at + 2) (length c) ≡ c
unfolding part octets16
phrase_back s at n c rest e = rw (drop-seen s _ at 2 e) (take-append_seam c rest)

length_cause : (n : ℕ) (c : List ℕ) → length (octets16 n ++ c) + 0 - 2 ≡ length c
unfolding octets16
length_cause n c = omega arith

pub cause_back : (s src : List ℕ) (i at : ℕ) (o : Option RejectCause) → (row_of i).spare ≡ 0 → Stands s i (or_else (of_cause src o) None) at
    → of_cause s (cause_at s at) ≡ of_cause src o
unfolding cause_at when◌then◌else◌
cause_back s src i at None e h = rw h
cause_back s src i at (Some x) e h =
    let c : List ℕ = part src x.phrase.from x.phrase.count in
    let b : be16 s at ≡ x.cause = be16_first s _ at h.octets ∙ rw append_assoc (be16_back x.cause (c ++ h.behind)) in
    let l : get_or s (at - 1) 0 - 2 ≡ length c = rw (h.before, e) (length_cause x.cause c) in
    let p : part s (at + 2) (length c) ≡ c = phrase_back s at x.cause c h.behind h.octets in
    let read : RejectCause = record { cause = be16 s at; phrase = record { from = at + 2; count = get_or s (at - 1) 0 - 2 } } in
    rw (given at None (Some read) h.starts, b, l, p)
