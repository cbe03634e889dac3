-- How many octets each kind of field takes, and that what lies in the source is a part of it. Assumes nothing.
use Prim.Native.Nat.{ℕ, ◌+◌}
use mathlib.Core.Bool.{true}
use mathlib.Core.List.{List, [], ◌∷◌, ◌++◌}
use mathlib.Core.Path.{◌≡◌, refl}
use lib.ListN.{length}
use Rattle.std.specs.Prelude.{Option, None, Some, option_map, IfSome, leb}
use Rattle.octets.specs.Octets.{octets16, octets32, part}
use Rattle.octets.proofs.Numbers.{length16, length32}
use Rattle.message.specs.Table.{row_of, padding, padded}
use Rattle.message.specs.Message.{of_octet, of_word, of_number, of_queue, of_part, of_cause, part_lies, phrase_lies}
use Rattle.message.specs.declared.QueueInfo.{QueueInfo}
use Rattle.message.specs.declared.Part.{Part}
use Rattle.message.specs.declared.RejectCause.{RejectCause}
use Rattle.field_writing.specs.Wire.{optional}
use Rattle.field_writing.specs.Puts.{size_of, octet_size, word_size, queue_size, number_size, part_size, cause_size}
use Rattle.field_writing.specs.Contents.{part_counts, cause_counts, octet_spared, number_spared, none_spared}
use Rattle.field_writing.proofs.Fields.{field_takes}

-- so many octets; a record, so that a use need not write them again
pub record Sized (xs : List ℕ) (size : ℕ) : Type 0 where
  pub is : length xs ≡ size

pub field_sized : {X : Type 0} (i spare : ℕ) (octets : X → List ℕ) (count : X → ℕ) (o : Option X) → (row_of i).spare ≡ spare
    → ((x : X) → o ≡ Some x → length (octets x) ≡ count x) → ((x : X) → spare + padding (count x + spare) ≡ padding (count x))
    → Sized (optional i (option_map octets o)) (size_of count o)
unfolding optional padded
field_sized i spare octets count None s l p = record { is = refl }
field_sized i spare octets count (Some x) s l p = record { is = field_takes i spare (count x) (octets x) s (l x refl) (p x) }

pub octet_sized : (i : ℕ) → (row_of i).spare ≡ 1 → (o : Option ℕ) → Sized (optional i (of_octet o)) (octet_size o)
octet_sized i s o = field_sized i 1 (λ n. n ∷ []) (λ n. 1) o s (λ n e. refl) (λ n. octet_spared)

pub word_sized : (i : ℕ) → (row_of i).spare ≡ 0 → (o : Option ℕ) → Sized (optional i (of_word o)) (word_size o)
word_sized i s o = field_sized i 0 octets16 (λ n. 2) o s (λ n e. length16 n) (λ n. none_spared 2)

pub queue_sized : (i : ℕ) → (row_of i).spare ≡ 0 → (o : Option QueueInfo) → Sized (optional i (of_queue o)) (queue_size o)
queue_sized i s o = field_sized i 0 (λ q. q.place ∷ q.priority ∷ []) (λ q. 2) o s (λ q e. refl) (λ q. none_spared 2)

pub number_sized : (i : ℕ) → (row_of i).spare ≡ 2 → (o : Option ℕ) → Sized (optional i (of_number o)) (number_size o)
number_sized i s o = field_sized i 2 octets32 (λ n. 4) o s (λ n e. length32 n) (λ n. number_spared)

pub part_sized : (i : ℕ) → (row_of i).spare ≡ 0 → (src : List ℕ) (o : Option Part) → part_lies src o ≡ true →
    Sized (optional i (of_part src o)) (part_size o)
part_sized i s src o h =
    field_sized i 0 (λ p. part src p.from p.count) (λ p. p.count) o s (λ p e. part_counts src p (rw e at h)) (λ p. none_spared p.count)

pub cause_sized : (i : ℕ) → (row_of i).spare ≡ 0 → (src : List ℕ) (o : Option RejectCause) → phrase_lies src o ≡ true →
    Sized (optional i (of_cause src o)) (cause_size o)
cause_sized i s src o h =
    field_sized i 0 (λ c. octets16 c.cause ++ part src c.phrase.from c.phrase.count) (λ c. c.phrase.count + 2) o s
    (λ c e. cause_counts src c (rw e at h)) (λ c. none_spared (c.phrase.count + 2))

-- where a field's text lies in the source, as the function that lays the field asks
pub part_there : (src : List ℕ) (o : Option Part) → part_lies src o ≡ true → IfSome o (λ p. leb (p.from + p.count) (length src) ≡ true)
part_there src None h = tt
part_there src (Some p) h = h

pub phrase_there : (src : List ℕ) (o : Option RejectCause) → phrase_lies src o ≡ true →
    IfSome o (λ c. leb (c.phrase.from + c.phrase.count) (length src) ≡ true)
phrase_there src None h = tt
phrase_there src (Some c) h = h
