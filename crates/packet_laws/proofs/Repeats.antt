-- Proofs of specs/Repeats: both walks take the same steps, and differ where an ID of the table comes again. Assumes nothing.
use Prim.Native.Nat.{ℕ, zero, suc, ◌≤◌}
use native.Mathlib.Omega.{arith}
use mathlib.Core.Bool.{Bool, true, false}
use mathlib.Core.List.{List, [], ◌∷◌}
use mathlib.Core.Logic.{inl, inr}
use mathlib.Core.Path.{◌≡◌, refl, sym, ap, ◌∙◌}
use lib.Dec.{eqb}
use lib.ListN.{length}
use borrow.Author.Tests.{eqb-true}
use Rattle.words.specs.Choice.{when◌then◌else◌, by_test, if_yes, if_no}
use Rattle.words.proofs.Tests.{clash, or_right}
use Rattle.message.specs.declared.MessageType.{MessageType}
use Rattle.message.specs.Answers.{Answer, refused, result}
use Rattle.message.proofs.Answers.{never}
use Rattle.header.specs.Header.{header_size}
use Rattle.header.specs.Opening.{opening}
use Rattle.field.specs.declared.FieldFound.{FieldFound}
use Rattle.field.specs.declared.FieldStep.{FieldStep}
use Rattle.field.specs.declared.FieldStep.TheVariants.{Field, Skipped, End, PastTheEnd, AgainstTheTable}
use Rattle.field.specs.Fields.{step_at, among, Fields, whole, fault, infront, step_then, fields_from, fields_in}
use Rattle.reading.specs.Reading.{judged, opened, reading}
use Rattle.packet_laws.specs.Repeats.{fields_from01, fields_in01, opened01, reading01, met_then, met_from, twice_behind, repeats}
use Rattle.packet_laws.specs.Repeats.{NoneTwice, OneTwice, ReadAsBefore, FaultOrFourteen, with_id, OneOfEach}
use Rattle.walk.proofs.Reaches.{no_fault}
use Rattle.packet_laws.proofs.Judged.{rest_of}

-- a field in front of either
infront_either : (t : Bool) (f : FieldFound) (n : ℕ) (rest : Fields)
    → infront f (when t then fault n else rest) ≡ (when t then fault n else infront f rest)
unfolding when◌then◌else◌
infront_either true f n rest = refl
infront_either false f n rest = refl

-- 14 where an ID of the table is met twice, and else what document 01's walk finds
by_walk : (s : List ℕ) (steps : ℕ) (before : List ℕ) (at : ℕ)
    → fields_from steps before s at ≡ (when twice_behind before (met_from steps s at) then fault 14 else fields_from01 steps s at)
unfolding fields_from fields_from01 met_from twice_behind among when◌then◌else◌
by_walk s zero before at = refl
by_walk s (suc steps) before at = go (step_at s at) (λ past next. by_walk s steps past next)
  where
    go : (t : FieldStep)
        → ((past : List ℕ) (next : ℕ) → fields_from steps past s next
        ≡ (when twice_behind past (met_from steps s next) then fault 14 else fields_from01 steps s next))
        → step_then before t (λ past next. fields_from steps past s next)
        ≡ (when twice_behind before (met_then t (λ next. met_from steps s next)) then fault 14
        else step_then [] t (λ past next. fields_from01 steps s next))
    go End more = refl
    go PastTheEnd more = refl
    go (AgainstTheTable i) more = by_test (among before i) (λ e. rw e) (λ e. rw e)
    go (Skipped f) more = more before f.next
    go (Field f) more =
        by_test (among before f.id) (λ e. rw e)
        (λ e. rw (e, more (f.id ∷ before) f.next)
        (infront_either (twice_behind (f.id ∷ before) (met_from steps s f.next)) f 14 (fields_from01 steps s f.next)))

by_repeats : (s : List ℕ) → fields_in s ≡ (when repeats s then fault 14 else fields_in01 s)
unfolding fields_in fields_in01 repeats
by_repeats s = by_walk s (length s) [] header_size

pub none_twice : NoneTwice
unfolding reading reading01
none_twice s e = go (opening s)
  where
    go : (a : Answer MessageType) → opened a s ≡ opened01 a s
    go (refused n) = refl
    go (result k) = ap (judged k s) (by_repeats s ∙ if_no (repeats s) (fault 14) (fields_in01 s) e)

pub one-twice : OneTwice
unfolding reading
one-twice s k o e = rw (o, by_repeats s ∙ if_yes (repeats s) (fault 14) (fields_in01 s) e)

-- by the head: a packet that it refuses, and one that is judged by its fields
data Head (s : List ℕ) : Type 0 where
  refuses : (n : ℕ) → reading s ≡ refused n → reading01 s ≡ refused n → Head s
  opens : (k : MessageType) → opening s ≡ result k → Head s

head : (s : List ℕ) → Head s
unfolding reading reading01
head s = go (opening s) refl
  where
    go : (a : Answer MessageType) → opening s ≡ a → Head s
    go (refused n) e = refuses n (rw e) (rw e)
    go (result k) e = opens k e

pub read_as_before : ReadAsBefore
read_as_before s m e =
    by_test (repeats s)
    (λ t. elim (head s) [ refuses n q r ↦ never (sym q ∙ e) | opens k o ↦ never (sym (one-twice s k o t) ∙ e) ])
    (λ t. sym (none_twice s t) ∙ e)

pub fault_or_fourteen : FaultOrFourteen
fault_or_fourteen s n e =
    by_test (repeats s)
    (λ t. elim (head s) [ refuses j q r ↦ inl (q ∙ sym r ∙ e) | opens k o ↦ inr (one-twice s k o t) ])
    (λ t. inl (none_twice s t ∙ e))

-- of each ID of the table one at most, and none that came before
record Once (before : List ℕ) (fs : List FieldFound) (i : ℕ) : Type 0 where
  none : among before i ≡ true → with_id fs i ≡ 0
  most : with_id fs i ≤ 1

no_field : (before : List ℕ) (fs : List FieldFound) (i : ℕ) → [] ≡ fs → Once before fs i
unfolding with_id
no_field before fs i e = rw (← e) (record { none = λ a. refl; most = omega arith })

once_more : (before : List ℕ) (f : FieldFound) (fs : List FieldFound) (i : ℕ) → among before f.id ≡ false
    → Once (f.id ∷ before) fs i → Once before (f ∷ fs) i
unfolding with_id among
once_more before f fs i new o =
    by_test (eqb i f.id)
    (λ e.
    let q : i ≡ f.id = eqb-true i f.id e in
    let z : with_id fs i ≡ 0 = o.none (rw e) in
    record {
      none = λ a. clash (rw (← q) a) new;
      most = rw (e, z) (omega arith);
    })
    (λ e.
    record {
      none = λ a. rw e (omega (arith, o.none (or_right (eqb i f.id) (among before i) a)));
      most = rw e (omega (arith, o.most));
    })

once : (s : List ℕ) (steps : ℕ) (before : List ℕ) (at : ℕ) (fs : List FieldFound) (i : ℕ) → fields_from steps before s at ≡ whole fs
    → Once before fs i
unfolding fields_from
once s zero before at fs i e = no_field before fs i (cc)
once s (suc steps) before at fs i e = go (step_at s at) e (λ past next gs. once s steps past next gs i)
  where
    go : (t : FieldStep) → step_then before t (λ past next. fields_from steps past s next) ≡ whole fs
        → ((past : List ℕ) (next : ℕ) (gs : List FieldFound) → fields_from steps past s next ≡ whole gs → Once past gs i) → Once before fs i
    go End h more = no_field before fs i (cc)
    go PastTheEnd h more = no_field before fs i (cc)
    go (AgainstTheTable j) h more = no_fault (among before j) 14 (fault 10) fs h (λ n (z : fault 10 ≡ whole fs). no_field before fs i (cc))
    go (Field f) h more =
        no_fault (among before f.id) 14 (infront f (fields_from steps (f.id ∷ before) s f.next)) fs h
        (λ new z.
        let r = rest_of f (fields_from steps (f.id ∷ before) s f.next) fs z in
        rw (← r.is) (once_more before f r.found i new (more (f.id ∷ before) f.next r.found r.all)))
    go (Skipped f) h more = more before f.next fs h

pub one_of_each : OneOfEach
unfolding fields_in
one_of_each s fs i e = (once s (length s) [] header_size fs i e).most
