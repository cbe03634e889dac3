-- Written again: a message that was read is one that the writer accepts, and its octets read as the same message. Assumes nothing.
use Prim.Native.Nat.{ℕ, ◌≤◌}
use native.Mathlib.Omega.{arith}
use mathlib.Core.Bool.{Bool, true, false, ◌&&◌}
use mathlib.Core.Path.{◌≡◌, refl, subst}
use mathlib.Core.List.{List, []}
use lib.Dec.{lit≤}
use lib.ListN.{length}
use Rattle.words.specs.Below.{and_left, and_right}
use Rattle.words.specs.Choice.{when◌then◌else◌}
use Rattle.octets.specs.Octets.{octets16, octets32}
use Rattle.message.specs.Table.{row_in, at_fault}
use Rattle.message.specs.Message.{said, fields_of, complete, lies}
use Rattle.message.specs.Answers.{refused, result}
use Rattle.message.proofs.Answers.{never}
use Rattle.message.specs.declared.MessageType.{MessageType}
use Rattle.message.specs.declared.Message.{Message}
use Rattle.field.specs.declared.FieldFound.{FieldFound}
use Rattle.field.specs.Fields.{Fields, whole, fault, fields_in}
use Rattle.walk.specs.Starts.{start_of}
use Rattle.reading.specs.Reading.{message_at, judged, reading}
use Rattle.reading.proofs.Judges.{read_by}
use Rattle.header.specs.Header.{header_size, headed, first_octet}
use Rattle.header.proofs.Openings.{opened_by}
use Rattle.writing.specs.Wire.{header, wire}
use Rattle.readable.specs.Readable.{readable, all_fit}
use Rattle.packet_laws.specs.Again.{WrittenAgain, ReadIsWritten, OnlyTwelve}
use Rattle.packet_laws.proofs.Judged.{AllJudged, all_judged, size_of}
use Rattle.packet_laws.proofs.Kept.{Kept, done, ◌also◌, octet_kept, word_kept, number_kept, queue_kept, part_kept, cause_kept}
use Rattle.packet_laws.proofs.Kept.{part_lies_lem, phrase_lies_lem, all_fit_lem, body_sized}
use Rattle.packet_laws.proofs.Walk.{ascends}
use Rattle.packet_laws.proofs.Sizes.{firsts_within}
use Rattle.packet_laws.proofs.Back.{read_back}

-- a message that was read, by the fields that were found
record Accepted (s : List ℕ) (m : Message) : Type 0 where
  kind : MessageType
  found : List FieldFound
  all : fields_in s ≡ whole found
  is : message_at kind s (start_of found) ≡ m
  full : complete (said m s) ≡ true

chosen : (t : Bool) (a m : Message) → (when t then result a else refused 11) ≡ result m → (t ≡ true) × (a ≡ m)
unfolding when◌then◌else◌
chosen true a m e = (refl, cc)
chosen false a m e = (cc, cc)

by_fields : (k : MessageType) (s : List ℕ) (m : Message) (fields : Fields) → fields_in s ≡ fields → judged k s fields ≡ result m →
    Accepted s m
by_fields k s m (fault n) q e = never e
by_fields k s m (whole found) q e =
    let a : Message = message_at k s (start_of found) in
    let c = chosen (complete (said a s)) a m e in
    record { kind = k; found = found; all = q; is = c.1; full = rw (← c.1) c.0 }

-- checks 1 to 8 passed, of which only the first is needed below
record Head (s : List ℕ) (m : Message) : Type 0 where
  long : header_size ≤ length s
  rest : Accepted s m

accepted : (s : List ℕ) (m : Message) → reading s ≡ result m → Head s m
accepted s m e =
    let r = read_by s m e in
    record { long = (opened_by s r.kind r.opens).long; rest = by_fields r.kind s m (fields_in s) refl r.judges }

-- the twelve fields of such a message, each by its kind: they can be written, and take no more than they took
module _ (s : List ℕ) (k : MessageType) (found : List FieldFound) (w : AllJudged s header_size found) where
  abbrev m : Message
  m = message_at k s (start_of found)

  kept : Kept (size_of found) (fields_of m s)
  unfolding message_at row_in at_fault when◌then◌else◌
  kept =
      octet_kept s 0 _ _ (refl, refl) (λ n. refl) (w.each 0)
      also word_kept s 1 _ _ (refl, refl) (w.each 1)
      also cause_kept s 2 _ _ refl (lit≤ tt) (λ n. refl) (w.each 2)
      also queue_kept s 3 _ _ (refl, refl) (λ n. refl) (w.each 3)
      also part_kept s 4 _ _ refl (λ n. refl) (w.each 4)
      also word_kept s 5 _ _ (refl, refl) (w.each 5)
      also part_kept s 6 _ _ refl (λ n. refl) (w.each 6)
      also word_kept s 8 _ _ (refl, refl) (w.each 8)
      also word_kept s 10 _ _ (refl, refl) (w.each 10)
      also octet_kept s 12 _ _ (refl, refl) (λ n. refl) (w.each 12)
      also word_kept s 13 _ _ (refl, refl) (w.each 13)
      also number_kept s 14 _ _ (refl, refl) (λ n. refl) (w.each 14)
      also done

  it_lies : lies m s ≡ true
  unfolding lies message_at row_in when◌then◌else◌
  it_lies = rw (part_lies_lem s 4 _ _ (w.each 4), part_lies_lem s 6 _ _ (w.each 6), phrase_lies_lem s 2 _ _ (lit≤ tt) (w.each 2))

  can_be_written : complete (said m s) ≡ true → readable m s ≡ true
  unfolding readable said
  can_be_written full = rw (it_lies, all_fit_lem kept) full

  no_longer : header_size ≤ length s → length (wire (said m s)) ≤ length s
  unfolding wire header headed first_octet said octets16 octets32 ascends
  no_longer h = omega (arith, body_sized kept, firsts_within found 0 (fields_of m s) refl, w.ends h)

again : (s : List ℕ) (m : Message) → header_size ≤ length s → Accepted s m → WrittenAgain s m
unfolding fields_in
again s m h a =
    let w : AllJudged s header_size a.found = all_judged s [] (length s) header_size a.found a.all in
    let written : readable m s ≡ true =
    subst (λ x. complete (said x s) ≡ true → readable x s ≡ true) a.is (can_be_written s a.kind a.found w) a.full in
    record {
      accepted = written;
      again = read_back m s written;
      no_longer = subst (λ x. length (wire (said x s)) ≤ length s) a.is (no_longer s a.kind a.found w h);
    }

pub read_is_written : ReadIsWritten
read_is_written s m e = let a = accepted s m e in again s m a.long a.rest

-- what makes a message readable is said by the message, but for where its parts lie
pub only_twelve : OnlyTwelve
unfolding readable
only_twelve m src s l h =
    let m' : Message = h.message in
    let r : readable m' s ≡ true = (read_is_written s m' h.read).accepted in
    let fit : all_fit (said m src).fields ≡ true =
    rw h.same at (and_right (lies m' s) (all_fit (said m' s).fields) (and_left _ (complete (said m' s)) r)) in
    let full : complete (said m src) ≡ true =
    rw h.same at (and_right (lies m' s && all_fit (said m' s).fields) (complete (said m' s)) r) in
    rw (l, fit, full)
