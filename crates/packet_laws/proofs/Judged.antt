-- What the reader's walk has judged of each field that it found, and that those fields do not take more octets than there are.
-- Assumes nothing.
use Prim.Native.Nat.{ℕ, zero, suc, ◌+◌, ◌-◌, ◌≤◌, ◌<◌}
use native.Mathlib.Omega.{arith}
use mathlib.Core.Path.{◌≡◌, refl}
use mathlib.Core.Logic.{◌⊎◌, inl, inr}
use mathlib.Core.List.{List, [], ◌∷◌}
use lib.Dec.{eqb}
use lib.ListN.{length, get_or}
use borrow.Author.Tests.{eqb-true}
use Rattle.words.specs.Choice.{when◌then◌else◌, by_test}
use Rattle.octets.specs.Octets.{be16}
use Rattle.message.specs.Table.{padded}
use Rattle.field.specs.declared.FieldFound.{FieldFound}
use Rattle.field.specs.declared.FieldStep.{FieldStep}
use Rattle.field.specs.Fields.{Fields, whole, fault, infront, among, step_then, step_at, fields_from, id_at, length_at}
use Rattle.walk.specs.Starts.{start_of}
use Rattle.field.proofs.Steps.{Inside, next_there, Sound, step_sound, step_inside}
use Rattle.walk.proofs.Reaches.{no_fault}
use Rattle.packet_laws.proofs.Numbers.{length_place_lem}
use Rattle.packet_laws.proofs.Fits.{Agrees, agrees}

-- how many octets the field with this ID takes, and all fields together
unfoldable pub size_of : List FieldFound → ℕ → ℕ
size_of [] i = 0
size_of (f ∷ fs) i = when eqb i f.id then padded f.len else size_of fs i

unfoldable pub total : List FieldFound → ℕ
total [] = 0
total (f ∷ fs) = padded f.len + total fs

-- the content of a field with this ID starts at a place: it is inside, it is not against the table, and the field takes this size
pub record Good (s : List ℕ) (i at size : ℕ) : Type 0 where
  pub starts : 0 < at
  pub fit : Agrees i (get_or s (at - 1) 0) (be16 s at)
  pub inside : at + get_or s (at - 1) 0 ≤ length s
  pub sized : size ≡ padded (get_or s (at - 1) 0)

abbrev pub Judged : List ℕ → ℕ → ℕ → ℕ → Type 0
Judged s i at size = (at ≡ 0) ⊎ Good s i at size

-- the walk's fields, each judged, and all within the packet
pub record AllJudged (s : List ℕ) (p : ℕ) (fs : List FieldFound) : Type 0 where
  pub each : (i : ℕ) → Judged s i (start_of fs i) (size_of fs i)
  pub ends : p ≤ length s → p + total fs ≤ length s

-- one more field in front: it is the one that is found by its ID, and another ID finds what it found
good : (s : List ℕ) (p : ℕ) (f : FieldFound) → Sound s p f → Good s (id_at s p) (p + 2) (padded (length_at s p))
unfolding padded
good s p f h =
    record {
      starts = omega arith;
      fit = rw length_place_lem (agrees (id_at s p) (length_at s p) (be16 s (p + 2)) h.fine);
      inside = rw length_place_lem (omega (arith, h.lies.fits));
      sized = rw length_place_lem;
    }

front : (s : List ℕ) (p : ℕ) (f : FieldFound) (fs : List FieldFound) → Sound s p f → AllJudged s f.next fs → AllJudged s p (f ∷ fs)
unfolding start_of size_of total when◌then◌else◌
front s p f fs h w =
    let n : f.next ≡ p + padded (length_at s p) = next_there s p f h.lies in
    rw h.lies.is
    (record {
      each = λ i.
          by_test (eqb i (id_at s p)) (λ q. rw (q, eqb-true i (id_at s p) q) (inr (good s p f h))) (λ q. rw q (w.each i));
      ends = λ l. omega (arith, h.lies.fits, w.ends (omega (arith, h.lies.fits)));
    })

ended : (s : List ℕ) (p : ℕ) (fs : List FieldFound) → [] ≡ fs → AllJudged s p fs
unfolding start_of total
ended s p fs e = rw (← e) (record { each = λ i. inl refl; ends = λ l. omega arith })

-- the rest of a walk that was whole
pub record Rest (f : FieldFound) (rest : Fields) (fs : List FieldFound) : Type 0 where
  pub found : List FieldFound
  pub all : rest ≡ whole found
  pub is : f ∷ found ≡ fs

pub rest_of : (f : FieldFound) (rest : Fields) (fs : List FieldFound) → infront f rest ≡ whole fs → Rest f rest fs
rest_of f (whole gs) fs e = record { found = gs; all = refl; is = cc }
rest_of f (fault n) fs e = record { found = []; all = cc; is = cc }

-- a field that is skipped takes its octets, and is none of them
past : (s : List ℕ) (p : ℕ) (f : FieldFound) (fs : List FieldFound) → Inside s p f → AllJudged s f.next fs → AllJudged s p fs
past s p f fs k w =
    let n : f.next ≡ p + padded (length_at s p) = next_there s p f k in
    record { each = w.each; ends = λ l. omega (arith, k.fits, w.ends (omega (arith, k.fits))) }

pub all_judged : (s before : List ℕ) (steps p : ℕ) (fs : List FieldFound) → fields_from steps before s p ≡ whole fs → AllJudged s p fs
unfolding fields_from
all_judged s before zero p fs e = ended s p fs (cc)
all_judged s before (suc steps) p fs e = go (step_at s p) refl e (λ past q gs. all_judged s past steps q gs)
  where
    go : (t : FieldStep) → step_at s p ≡ t → step_then before t (λ past next. fields_from steps past s next) ≡ whole fs
        → ((past : List ℕ) (q : ℕ) (gs : List FieldFound) → fields_from steps past s q ≡ whole gs → AllJudged s q gs) → AllJudged s p fs
    go FieldStep.End q h more = ended s p fs (cc)
    go FieldStep.PastTheEnd q h more = ended s p fs (cc)
    go (FieldStep.AgainstTheTable i) q h more =
        no_fault (among before i) 14 (fault 10) fs h (λ n (z : fault 10 ≡ whole fs). ended s p fs (cc))
    go (FieldStep.Field f) q h more =
        no_fault (among before f.id) 14 (infront f (fields_from steps (f.id ∷ before) s f.next)) fs h
        (λ n z.
        let r = rest_of f (fields_from steps (f.id ∷ before) s f.next) fs z in
        rw (← r.is) (front s p f r.found (step_sound s p f q) (more (f.id ∷ before) f.next r.found r.all)))
    go (FieldStep.Skipped f) q h more = past s p f fs (step_inside s p f q) (more before f.next fs h)
