-- The reader's walk over written fields finds each of them, and nothing else: their IDs ascend, so that none is a second one. Assumes
-- nothing.
use Prim.Native.Nat.{ℕ, zero, suc, ◌+◌, ◌-◌, ◌≤◌, ◌<◌}
use native.Mathlib.Nat.{add_comm}
use native.Mathlib.Numerals.{towards_suc}
use native.Mathlib.Omega.{arith}
use mathlib.Core.Bool.{Bool, true, false, ◌&&◌}
use mathlib.Core.Path.{◌≡◌, refl, ap, ◌∙◌}
use mathlib.Core.List.{List, [], ◌∷◌, ◌++◌, append_assoc}
use Rattle.std.specs.Prelude.{Option, None, Some}
use lib.Dec.{eqb, leb, lit<}
use lib.ListN.{length, get_or, drop, replicate, length-append, length-drop, length-replicate, replicate-append-replicate}
use lib.Seq.{drop_at}
use borrow.Author.Tests.{eqb-true, ne_eqb, leb-true, not-true}
use Rattle.words.specs.Below.{and_left, and_right}
use Rattle.words.specs.Choice.{when◌then◌else◌, by_test}
use Rattle.octets.specs.Octets.{be16}
use Rattle.words.proofs.Tests.{neither}
use Rattle.message.specs.Table.{row_of, listed, padded, padding, length_of}
use Rattle.message.specs.Message.{Field, field}
use Rattle.field.specs.declared.FieldFound.{FieldFound}
use Rattle.field.specs.declared.FieldStep.{FieldStep}
use Rattle.field.specs.Fields.{Fields, whole, step_at, among, fields_from, id_at, length_at, field_at}
use Rattle.walk.specs.Starts.{start_of}
use Rattle.field_writing.specs.Wire.{field_octets, optional, body}
use Rattle.readable.specs.Readable.{fits, all_fit}
use Rattle.octets.proofs.Numbers.{seen, first_seen, be16-seen, drop-seen}
use Rattle.field.proofs.Steps.{step_end, step_field}
use Rattle.packet_laws.proofs.Numbers.{zeros_behind_lem, length_place_lem}
use Rattle.message.proofs.Paddings.{padded_least}
use Rattle.message.proofs.Rows.{listed_below}
use Rattle.packet_laws.proofs.Places.{There, Stands, or_else}

-- the IDs ascend, from the least on
unfoldable pub ascends : ℕ → List Field → Bool
ascends least [] = true
ascends least (f ∷ fs) = leb least f.id && ascends (suc f.id) fs

-- none from this one on came before: then no field of an ID from there on is a second one
abbrev Below : List ℕ → ℕ → Type 0
Below before least = (i : ℕ) → least ≤ i → among before i ≡ false

below_next : (before : List ℕ) (least i : ℕ) → Below before least → least ≤ i → Below (i ∷ before) (suc i)
unfolding among
below_next before least i b h j l = neither (eqb j i) (among before j) (ne_eqb j i (λ q. omega arith)) (b j (omega arith))

-- what a message has at an ID: the first content there is
unfoldable pub first_of : List Field → ℕ → Option (List ℕ)
first_of [] i = None
first_of (f ∷ fs) i = when eqb i f.id then or_else f.content (first_of fs i) else first_of fs i

-- the walk's answer, for fields that stand in s: it is whole, and each first field starts where it stands
pub record Walked (s : List ℕ) (fs : List Field) (answer : Fields) : Type 0 where
  pub found : List FieldFound
  pub all : answer ≡ whole found
  pub stands : (i : ℕ) → Stands s i (first_of fs i) (start_of found i)

-- a field's octets with what stands behind them
laid : (i : ℕ) (c rest : List ℕ)
    → field_octets i c ++ rest ≡ i ∷ length_of i c ∷ (c ++ (replicate ((row_of i).spare + padding (length_of i c)) 0 ++ rest))
unfolding field_octets
laid i c rest = simp (append_assoc, ← replicate-append-replicate {A = ℕ})

pub length_laid : (i : ℕ) (c : List ℕ) → length (field_octets i c) ≡ padded (length_of i c)
unfolding field_octets padded
length_laid i c = simp (length-append, length-replicate) (omega arith)

-- a field that is not there changes nothing
skip : (s : List ℕ) (i : ℕ) (fs : List Field) (answer : Fields) → Walked s fs answer → Walked s (field i None ∷ fs) answer
unfolding first_of when◌then◌else◌
skip s i fs answer w =
    record {
      found = w.found;
      all = w.all;
      stands = λ j. by_test (eqb j i) (λ e. rw e (w.stands j)) (λ e. rw e (w.stands j));
    }

-- a field that fits is found where it stands, and the walk goes on behind it
module _ (s : List ℕ) (i : ℕ) (c rest : List ℕ) (p : ℕ)
    (known : listed i ≡ true) (fit : fits i (Some c) ≡ true) (e : drop p s ≡ field_octets i c ++ rest) where
  abbrev octets : List ℕ
  octets = i ∷ length_of i c ∷ (c ++ (replicate ((row_of i).spare + padding (length_of i c)) 0 ++ rest))

  at_place : drop p s ≡ octets
  at_place = e ∙ laid i c rest

  id_there : id_at s p ≡ i
  id_there = first_seen s octets p at_place

  length_there : length_at s p ≡ length_of i c
  length_there = seen s octets p 1 at_place

  behind_there : (k : ℕ) → k < 2 → get_or octets (2 + k) 0 ≡ get_or c k 0
  unfolding padded
  behind_there k h =
      let zeros : ℕ = (row_of i).spare + padding (length_of i c) in
      rw (add_comm 2 k) (simp towards_suc (zeros_behind_lem c zeros k rest (omega (arith, padded_least (length_of i c)))))

  content_there : be16 s (p + 2) ≡ be16 c 0
  unfolding be16
  content_there = be16-seen s octets p 2 at_place ∙ rw (behind_there 0 (lit< tt), behind_there 1 (lit< tt))

  ends : length s - p ≡ padded (length_of i c) + length rest
  ends = simp (length-drop, length-append, length_laid) at (ap length e)

  found_there : step_at s p ≡ FieldStep.Field (field_at s p)
  found_there =
      let n : length s - p ≡ padded (length_of i c) + length rest = ends in
      let w : 4 ≤ padded (length_of i c) = padded_least (length_of i c) in
      step_field s p (omega arith) (rw id_there (omega (arith, listed_below i known))) (rw length_there (omega arith)) (rw id_there known)
      (rw (id_there, length_there, content_there) (not-true _ fit))

  stands_there : There s i c (p + 2)
  stands_there =
      record { behind = _; starts = omega arith; before = rw length_place_lem length_there; octets = drop-seen s octets p 2 at_place }

  rest_there : drop (p + padded (length_of i c)) s ≡ rest
  rest_there =
      drop-seen s (field_octets i c ++ rest) p (padded (length_of i c)) e
      ∙ drop_at (field_octets i c) rest (padded (length_of i c)) (length_laid i c)

  next : (fs : List Field) (before : List ℕ) (steps : ℕ) → among before i ≡ false
      → Walked s fs (fields_from steps (i ∷ before) s (p + padded (length_of i c)))
      → Walked s (field i (Some c) ∷ fs) (fields_from (suc steps) before s p)
  unfolding fields_from first_of start_of when◌then◌else◌
  next fs before steps new w =
      record {
        found = field_at s p ∷ w.found;
        all = rw (found_there, id_there, new, length_there, w.all);
        stands = λ j. rw id_there (by_test (eqb j i) (λ q. rw (q, eqb-true j i q) stands_there) (λ q. rw q (w.stands j)));
      }

-- each ID is the table's
unfoldable pub all_listed : List Field → Bool
all_listed [] = true
all_listed (f ∷ fs) = listed f.id && all_listed fs

-- one field, there or not, and then the rest
one : (s : List ℕ) (i : ℕ) (o : Option (List ℕ)) (fs : List Field) (before : List ℕ) (least steps p : ℕ) → listed i ≡ true → fits i o ≡ true
    → Below before least → least ≤ i → drop p s ≡ optional i o ++ body fs → length (optional i o ++ body fs) ≤ steps
    → ((past : List ℕ) (steps p : ℕ) → Below past (suc i) → drop p s ≡ body fs → length (body fs) ≤ steps
    → Walked s fs (fields_from steps past s p))
    → Walked s (field i o ∷ fs) (fields_from steps before s p)
unfolding optional
one s i None fs before least steps p l fit b up e h walk = skip s i fs _ (walk before steps p (λ j k. b j (omega arith)) e h)
one s i (Some c) fs before least zero p l fit b up e h walk =
    absurd (omega (arith, simp (length-append, length_laid) at h, padded_least (length_of i c)))
one s i (Some c) fs before least (suc steps) p l fit b up e h walk =
    next s i c (body fs) p l fit e fs before steps (b i up)
    (walk (i ∷ before) steps (p + padded (length_of i c)) (below_next before least i b up) (rest_there s i c (body fs) p l fit e)
    (omega (arith, simp (length-append, length_laid) at h, padded_least (length_of i c))))

-- as many steps as there are octets are enough
pub walk : (s : List ℕ) (fs : List Field) (before : List ℕ) (least steps p : ℕ) → all_listed fs ≡ true → ascends least fs ≡ true
    → all_fit fs ≡ true → Below before least → drop p s ≡ body fs → length (body fs) ≤ steps → Walked s fs (fields_from steps before s p)
unfolding all_listed ascends all_fit body fields_from first_of start_of
walk s [] before least zero p l up fit b e h = record { found = []; all = refl; stands = λ i. refl }
walk s [] before least (suc steps) p l up fit b e h =
    record { found = []; all = rw (step_end s p (omega (arith, simp length-drop at (ap length e)))); stands = λ i. refl }
walk s (f ∷ fs) before least steps p l up fit b e h =
    one s f.id f.content fs before least steps p (and_left (listed f.id) (all_listed fs) l)
    (and_left (fits f.id f.content) (all_fit fs) fit) b
    (leb-true least f.id (and_left (leb least f.id) (ascends (suc f.id) fs) up)) e h
    (λ past n q below.
    walk s fs past (suc f.id) n q (and_right (listed f.id) (all_listed fs) l)
    (and_right (leb least f.id) (ascends (suc f.id) fs) up)
    (and_right (fits f.id f.content) (all_fit fs) fit) below)
