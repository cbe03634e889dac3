-- What the reader makes of a judged field can be written: it fits the table, and takes no more octets than it took. A law for each kind
-- of content, and one for all fields of a message. Assumes nothing.
use Prim.Native.Nat.{ℕ, ◌+◌, ◌-◌, ◌≤◌}
use native.Mathlib.Nat.{add-zero}
use native.Mathlib.Omega.{arith}
use mathlib.Core.Bool.{true, false}
use mathlib.Core.Path.{◌≡◌, refl}
use mathlib.Core.Logic.{inl, inr}
use mathlib.Core.List.{List, [], ◌∷◌, ◌++◌}
use Rattle.std.specs.Prelude.{Option, None, Some, option_map}
use lib.ListN.{length, get_or, length-append}
use borrow.Author.Tests.{le-leb}
use Rattle.words.specs.Choice.{when◌then◌else◌}
use Rattle.octets.specs.Octets.{be16, be32, octets16, octets32, part}
use Rattle.octets.proofs.Over.{length_part}
use Rattle.message.specs.Table.{row_of, at_fault, length_of}
use Rattle.message.specs.Message.{Field, of_octet, of_word, of_number, of_queue, of_part, of_cause, part_lies, phrase_lies}
use Rattle.message.specs.declared.Part.{Part}
use Rattle.message.specs.declared.RejectCause.{RejectCause}
use Rattle.message.proofs.Rows.{content_left}
use Rattle.reading.specs.Reading.{there, octet_at, word_at, number_at, queue_at, part_at, cause_at}
use Rattle.field_writing.specs.Wire.{optional, body}
use Rattle.readable.specs.Readable.{fits, all_fit}
use Rattle.octets.proofs.Numbers.{be16_of, length16, length32}
use Rattle.packet_laws.proofs.Places.{given}
use Rattle.packet_laws.proofs.Walk.{length_laid}
use Rattle.packet_laws.proofs.Judged.{Good, Judged}

pub record Keeps (i size : ℕ) (o : Option (List ℕ)) : Type 0 where
  pub fit : fits i o ≡ true
  pub sized : length (optional i o) ≤ size

nothing : (i size : ℕ) → Keeps i size None
unfolding optional
nothing i size = record { fit = refl; sized = omega arith }

-- content of the L that the reader met, and not at fault
content : (s : List ℕ) (i at size : ℕ) (c : List ℕ) → Good s i at size → length_of i c ≡ get_or s (at - 1) 0 → at_fault i (be16 c 0) ≡ false
    → Keeps i size (Some c)
unfolding optional
content s i at size c g l e =
    record {
      fit = rw (content_left i (length_of i c) (be16 c 0) (rw l g.fit.least) (rw l g.fit.greatest), e);
      sized = rw (length_laid i c, l, g.sized) (omega arith);
    }

-- every field of this ID has a content of n octets, and the spare ones
abbrev Fixed : ℕ → ℕ → Type 0
Fixed i n = ((row_of i).least ≡ n + (row_of i).spare) × ((row_of i).greatest ≡ n + (row_of i).spare)

-- no content is at fault at this ID
abbrev Sound : ℕ → Type 0
Sound i = (n : ℕ) → at_fault i n ≡ false

fixed : (s : List ℕ) (i at size n : ℕ) → Fixed i n → Good s i at size → n + (row_of i).spare ≡ get_or s (at - 1) 0
fixed s i at size n f g = omega (arith, f.0, f.1, g.fit.least, g.fit.greatest)

-- what is read at a start, where it is kept if there is a start
kept : {X : Type 0} (octets : X → List ℕ) (s : List ℕ) (i at size : ℕ) (x : X) → (Good s i at size → Keeps i size (Some (octets x)))
    → Judged s i at size → Keeps i size (option_map octets (there at x))
unfolding when◌then◌else◌
kept octets s i at size x keeps (inl z) = rw z (nothing i size)
kept octets s i at size x keeps (inr g) = rw (given at None (Some x) g.starts) (keeps g)

pub octet_kept : (s : List ℕ) (i at size : ℕ) → Fixed i 1 → Sound i → Judged s i at size → Keeps i size (of_octet (octet_at s at))
unfolding octet_at
octet_kept s i at size f sound j =
    kept (λ n. n ∷ []) s i at size (get_or s at 0)
    (λ g. content s i at size (get_or s at 0 ∷ []) g (fixed s i at size 1 f g) (sound (be16 (get_or s at 0 ∷ []) 0))) j

pub word_kept : (s : List ℕ) (i at size : ℕ) → Fixed i 2 → Judged s i at size → Keeps i size (of_word (word_at s at))
unfolding word_at
word_kept s i at size f j =
    kept octets16 s i at size (be16 s at)
    (λ g. content s i at size (octets16 (be16 s at)) g (rw length16 (fixed s i at size 2 f g)) (rw (be16_of (be16 s at)) g.fit.content)) j

pub number_kept : (s : List ℕ) (i at size : ℕ) → Fixed i 4 → Sound i → Judged s i at size → Keeps i size (of_number (number_at s at))
unfolding number_at
number_kept s i at size f sound j =
    kept octets32 s i at size (be32 s at)
    (λ g. content s i at size (octets32 (be32 s at)) g (rw length32 (fixed s i at size 4 f g)) (sound (be16 (octets32 (be32 s at)) 0))) j

pub queue_kept : (s : List ℕ) (i at size : ℕ) → Fixed i 2 → Sound i → Judged s i at size → Keeps i size (of_queue (queue_at s at))
unfolding queue_at
queue_kept s i at size f sound j =
    let c : List ℕ = get_or s at 0 ∷ get_or s (at + 1) 0 ∷ [] in
    kept (λ q. q.place ∷ q.priority ∷ []) s i at size (record { place = get_or s at 0; priority = get_or s (at + 1) 0 })
    (λ g. content s i at size c g (fixed s i at size 2 f g) (sound (be16 c 0))) j

-- a part of the packet from its start on, as many octets as its L says
abbrev part_read : List ℕ → ℕ → Part
part_read s at = record { from = at; count = get_or s (at - 1) 0 }

pub part_kept : (s : List ℕ) (i at size : ℕ) → (row_of i).spare ≡ 0 → Sound i → Judged s i at size → Keeps i size (of_part s (part_at s at))
unfolding part_at
part_kept s i at size f sound j =
    let c : List ℕ = part s at (get_or s (at - 1) 0) in
    kept (λ p. part s p.from p.count) s i at size (part_read s at)
    (λ g. content s i at size c g (rw (length_part s at (get_or s (at - 1) 0) g.inside, f) (add-zero (get_or s (at - 1) 0)))
    (sound (be16 c 0))) j

pub part_lies_lem : (s : List ℕ) (i at size : ℕ) → Judged s i at size → part_lies s (part_at s at) ≡ true
unfolding part_at when◌then◌else◌
part_lies_lem s i at size (inl z) = rw z
part_lies_lem s i at size (inr g) =
    rw (given at None (Some (part_read s at)) g.starts) (le-leb (at + get_or s (at - 1) 0) (length s) g.inside)

-- a cause has two octets before its phrase
phrase_inside : (s : List ℕ) (i at size : ℕ) → 2 ≤ (row_of i).least → Good s i at size → at + 2 + (get_or s (at - 1) 0 - 2) ≤ length s
phrase_inside s i at size t g = omega (arith, g.fit.least, g.inside)

abbrev cause_read : List ℕ → ℕ → RejectCause
cause_read s at = record { cause = be16 s at; phrase = record { from = at + 2; count = get_or s (at - 1) 0 - 2 } }

pub cause_kept : (s : List ℕ) (i at size : ℕ) → (row_of i).spare ≡ 0 → 2 ≤ (row_of i).least → Sound i → Judged s i at size
    → Keeps i size (of_cause s (cause_at s at))
unfolding cause_at
cause_kept s i at size f t sound j =
    let l : ℕ = get_or s (at - 1) 0 in
    let c : List ℕ = octets16 (be16 s at) ++ part s (at + 2) (l - 2) in
    kept (λ x. octets16 x.cause ++ part s x.phrase.from x.phrase.count) s i at size (cause_read s at)
    (λ g. content s i at size c g
    (rw (length-append, length16, length_part s (at + 2) (l - 2) (phrase_inside s i at size t g), f) (omega (arith, g.fit.least)))
    (sound (be16 c 0))) j

pub phrase_lies_lem : (s : List ℕ) (i at size : ℕ) → 2 ≤ (row_of i).least → Judged s i at size → phrase_lies s (cause_at s at) ≡ true
unfolding cause_at when◌then◌else◌
phrase_lies_lem s i at size t (inl z) = rw z
phrase_lies_lem s i at size t (inr g) =
    rw (given at None (Some (cause_read s at)) g.starts)
    (le-leb (at + 2 + (get_or s (at - 1) 0 - 2)) (length s) (phrase_inside s i at size t g))

-- all fields of a message, each within the size that its ID has
infixr 20 ◌also◌
pub data Kept (size : ℕ → ℕ) : List Field → Type 0 where
  done : Kept size []
  ◌also◌ : {f : Field} {fs : List Field} → Keeps f.id (size f.id) f.content → Kept size fs → Kept size (f ∷ fs)

pub all_fit_lem : {size : ℕ → ℕ} {fs : List Field} → Kept size fs → all_fit fs ≡ true
unfolding all_fit
all_fit_lem done = refl
all_fit_lem (k also ks) = rw k.fit (all_fit_lem ks)

-- the sum of the sizes of some fields' IDs
unfoldable pub sum : (ℕ → ℕ) → List Field → ℕ
sum size [] = 0
sum size (f ∷ fs) = size f.id + sum size fs

pub body_sized : {size : ℕ → ℕ} {fs : List Field} → Kept size fs → length (body fs) ≤ sum size fs
unfolding body sum
body_sized done = omega arith
body_sized (◌also◌ {f = f} {fs = fs} k ks) = rw length-append (omega (arith, k.sized, body_sized ks))
