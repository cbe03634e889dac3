-- The fields that a walk found lie in the packet, and their lengths are the table's: so what the message reads at their starts is there.
-- Assumes nothing.
use Prim.Native.Nat.{ℕ, zero, suc, ◌+◌, ◌-◌, ◌≤◌}
use native.Mathlib.Omega.{arith}
use mathlib.Core.Bool.{Bool, true, false}
use mathlib.Core.List.{List, [], ◌∷◌}
use mathlib.Core.Path.{◌≡◌, refl, sym, ap, subst}
use lib.Dec.{ltb, eqb, lit<}
use lib.ListN.{length, get_or, get_or-eq_default}
use borrow.Author.Tests.{ltb-true, ltb-false, eqb-true}
use Rattle.words.proofs.Tests.{neither_left}
use Rattle.words.specs.Choice.{when◌then◌else◌, by_test}
use Rattle.message.specs.Table.{row_in, row_of, against, at_fault}
use Rattle.message.proofs.Paddings.{padded_least, padded-holds}
use Rattle.header.specs.Header.{header_size}
use Rattle.field.specs.declared.FieldFound.{FieldFound}
use Rattle.field.specs.declared.FieldStep.{FieldStep}
use Rattle.field.specs.declared.FieldStep.TheVariants.{Field, Skipped, End, PastTheEnd, AgainstTheTable}
use Rattle.field.specs.Fields.{id_at, length_at, step_at, Fields, whole, fault, infront, among, step_then, fields_from, fields_in}
use Rattle.field.proofs.Steps.{Sound, step_sound}
use Rattle.walk.specs.Starts.{start_of}
use Rattle.walk.specs.Walk.{Notes, Reach}

-- a field that lies in the packet, with a length that the table has
pub record Lies (s : List ℕ) (f : FieldFound) : Type 0 where
  pub two : f.start + 2 ≤ length s
  pub all : f.start + f.len ≤ length s
  pub least : (row_of f.id).least ≤ f.len
  pub before : get_or s (f.start - 1) 0 ≡ f.len

not_short : (i l n : ℕ) → against i l n ≡ false → (row_of i).least ≤ l
unfolding against
not_short i l n e = ltb-false l (row_of i).least (neither_left _ _ (neither_left _ (at_fault i n) e))

sound_lies : (s : List ℕ) (at : ℕ) (f : FieldFound) → Sound s at f → Lies s f
sound_lies s at f k =
    rw k.lies.is
    (record {
      two = omega (arith, padded_least (length_at s at), k.lies.fits);
      all = omega (arith, padded-holds (length_at s at), k.lies.fits);
      least = not_short (id_at s at) (length_at s at) _ k.fine;
      before = ap (λ (n : ℕ). get_or s n 0) (omega arith);
    })

-- the field whose start counts for an ID, if there is one
pub data Start (s : List ℕ) (fs : List FieldFound) (i : ℕ) : Type 0 where
  none : start_of fs i ≡ 0 → Start s fs i
  one : (f : FieldFound) → Lies s f → f.id ≡ i → start_of fs i ≡ f.start → Start s fs i

pub differ : ◌≡◌ {A = ℕ} 0 1 → ⊥
differ z = omega arith

start-more : (s : List ℕ) (f : FieldFound) (fs : List FieldFound) (i : ℕ) → Lies s f → Start s fs i → Start s (f ∷ fs) i
unfolding start_of when◌then◌else◌
start-more s f fs i l r =
    by_test (eqb i f.id) (λ e. one f l (sym (eqb-true i f.id e)) (rw e))
    (λ e. elim r [ none z ↦ none (rw e z) | one g k q z ↦ one g k q (rw e z) ])

behind : (s : List ℕ) (f : FieldFound) (fs : List FieldFound) (i : ℕ) (rest : Fields) → Lies s f → infront f rest ≡ whole fs
    → ((gs : List FieldFound) → rest ≡ whole gs → Start s gs i) → Start s fs i
behind s f fs i (whole gs) l e next =
    let q : f ∷ gs ≡ fs = cc in
    subst (λ (hs : List FieldFound). Start s hs i) q (start-more s f gs i l (next gs refl))
behind s f fs i (fault n) l e next = absurd (differ (cc))

-- where the fields are whole no fault was met
pub no_fault : {P : Type 0} (t : Bool) (n : ℕ) (rest : Fields) (fs : List FieldFound) → (when t then fault n else rest) ≡ whole fs
    → (t ≡ false → rest ≡ whole fs → P) → P
unfolding when◌then◌else◌
no_fault true n rest fs e then-so = absurd (differ (cc))
no_fault false n rest fs e then-so = then-so refl e

by_step : (s : List ℕ) (at : ℕ) (fs : List FieldFound) (i : ℕ) (before : List ℕ) (x : FieldStep) (rest : List ℕ → ℕ → Fields)
    → step_at s at ≡ x → step_then before x rest ≡ whole fs
    → ((past : List ℕ) (next : ℕ) (gs : List FieldFound) → rest past next ≡ whole gs → Start s gs i) → Start s fs i
unfolding start_of
by_step s at fs i before (Field f) rest q e next =
    no_fault (among before f.id) 14 (infront f (rest (f.id ∷ before) f.next)) fs e
    (λ new z.
    behind s f fs i (rest (f.id ∷ before) f.next) (sound_lies s at f (step_sound s at f q)) z (next (f.id ∷ before) f.next))
by_step s at fs i before (Skipped f) rest q e next = next before f.next fs e
by_step s at fs i before End rest q e next =
    let z : [] ≡ fs = cc in
    subst (λ (hs : List FieldFound). Start s hs i) z (none refl)
by_step s at fs i before PastTheEnd rest q e next = absurd (differ (cc))
by_step s at fs i before (AgainstTheTable j) rest q e next =
    no_fault (among before j) 14 (fault 10) fs e (λ new (z : fault 10 ≡ whole fs). absurd (differ (cc)))

starts : (steps : ℕ) (before s : List ℕ) (at : ℕ) (fs : List FieldFound) → fields_from steps before s at ≡ whole fs → (i : ℕ) → Start s fs i
unfolding fields_from start_of
starts zero before s at fs e i =
    let z : [] ≡ fs = cc in
    subst (λ (hs : List FieldFound). Start s hs i) z (none refl)
starts (suc steps) before s at fs e i =
    by_step s at fs i before (step_at s at) (λ past next. fields_from steps past s next) refl e
    (λ past next gs q. starts steps past s next gs q i)

pub reach : (s : List ℕ) (fs : List FieldFound) → header_size ≤ length s → fields_in s ≡ whole fs → Reach s (start_of fs)
unfolding fields_in row_in when◌then◌else◌
reach s fs h e =
    let at : (i : ℕ) → Start s fs i = starts (length s) [] s header_size fs e in
    record {
      long = h;
      two = λ i. elim (at i) [ none z ↦ omega arith | one f k q z ↦ omega (arith, k.two) ];
      four =
          elim (at 14) [
            | none z ↦ omega arith
            | one f k q z ↦
                let m : 6 ≤ f.len = rw q at k.least in
                omega (arith, k.all)
          ];
      cause =
          λ n.
          elim (at 2) [
            | none z ↦ absurd (n z)
            | one f k q z ↦
                let m : 2 ≤ f.len = rw q at k.least in
                rw (z, k.before) m
          ];
    }

-- the same by the array of starts
module _ (starts : List ℕ) (fs : List FieldFound) (n : Notes starts fs) where
  pub reach_notes : (s : List ℕ) → Reach s (start_of fs) → Reach s (λ i. get_or starts i 0)
  reach_notes s r =
      record {
        long = r.long;
        two =
            λ i.
            by_test (ltb i 16) (λ t. rw (n.has i (ltb-true i 16 t)) (r.two i))
            (λ t.
            let z : get_or starts i 0 ≡ 0 = get_or-eq_default starts 0 (rw n.long (ltb-false i 16 t)) in
            rw z (omega (arith, r.long)));
        four = rw (n.has 14 (lit< tt)) r.four;
        cause = rw (n.has 2 (lit< tt)) r.cause;
      }
