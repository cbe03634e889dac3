-- The walk's loop: what it has found and noted so far, and what is still to come, make up all the fields. Each turn keeps that, and
-- each way out reads the answer off it. Assumes nothing.
use Prim.Native.Nat.{ℕ, zero, suc, ◌+◌, ◌-◌, ◌<◌, ◌≤◌}
use native.Mathlib.Omega.{arith}
use mathlib.Core.Bool.{true, false, ◌&&◌}
use mathlib.Core.List.{List, [], ◌∷◌, ◌++◌}
use mathlib.Core.Path.{◌≡◌, refl, sym, ap, ◌∙◌}
use lib.Dec.{ltb, leb, eqb}
use lib.ListN.{length, get_or, replicate, length-set, get_or-replicate}
use lib.Seq.{get_or-set_same, get_or-set_other}
use borrow.Author.Tests.{ltb-true, lt-ltb, leb-true, leb-false, eqb-true, eqb-false, eq-eqb, ne_eqb, not-true, not-false}
use Rattle.words.specs.Choice.{when◌then◌else◌, by_test}
use Rattle.words.proofs.Tests.{clash}
use Rattle.message.specs.Table.{padded}
use Rattle.field.specs.declared.FieldFound.{FieldFound}
use Rattle.field.specs.declared.FieldStep.{FieldStep}
use Rattle.field.specs.declared.FieldStep.TheVariants.{Field, Skipped, End, PastTheEnd, AgainstTheTable}
use Rattle.std.specs.Prelude.{Result, Ok, Err}
use Rattle.message.specs.Answers.{refusal_number}
use Rattle.message.specs.declared.Refusal.{Refusal}
use Rattle.field.specs.Fields.{id_at, length_at, step_at, among, Fields, whole, fault, infront, step_then, fields_from, fields_in}
use Rattle.walk.specs.Starts.{start_of}
use Rattle.walk.specs.Walk.{has_come, noted, is_passed, noted_step, ended_by, no_starts, Notes, Walked}
use Rattle.reader.specs.Reader.{behind}
use Rattle.message.proofs.Paddings.{padded_least}
use Rattle.message.proofs.Rows.{listed_below}
use Rattle.field.proofs.Steps.{step_end, Inside, next_there, Sound, step_sound, step_inside}

-- what a proof about one noted start opens
unfoldable pub noting : Type 0
unfolding noted when◌then◌else◌
noting = ℕ

-- fields found before the others
abbrev all_infront : List FieldFound → Fields → Fields
all_infront [] rest = rest
all_infront (f ∷ fs) rest = infront f (all_infront fs rest)

one_more : (seen : List FieldFound) (f : FieldFound) (rest : Fields) →
    all_infront (seen ++ (f ∷ [])) rest ≡ all_infront seen (infront f rest)
one_more [] f rest = refl
one_more (g ∷ seen) f rest = ap (infront g) (one_more seen f rest)

to_the_end : (seen : List FieldFound) → all_infront seen (whole []) ≡ whole seen
to_the_end [] = refl
to_the_end (g ∷ seen) = ap (infront g) (to_the_end seen)

to_a_fault : (seen : List FieldFound) (n : ℕ) → all_infront seen (fault n) ≡ fault n
to_a_fault [] n = refl
to_a_fault (g ∷ seen) n = ap (infront g) (to_a_fault seen n)

-- no field's content starts at 0
abbrev Placed : List FieldFound → Type 0
Placed [] = Unit {0}
Placed (f ∷ fs) = (0 < f.start) × Placed fs

placed-more : (seen : List FieldFound) (f : FieldFound) → Placed seen → 0 < f.start → Placed (seen ++ (f ∷ []))
placed-more [] f p h = (h, tt)
placed-more (g ∷ seen) f p h = (p.0, placed-more seen f p.1 h)

-- one more behind those found: it is found where none before it has its ID
start-more : (seen : List FieldFound) (f : FieldFound) (i : ℕ) → Placed seen
    → start_of (seen ++ (f ∷ [])) i ≡ (when eqb (start_of seen i) 0 then (when eqb i f.id then f.start else 0) else start_of seen i)
unfolding start_of when◌then◌else◌
start-more [] f i p = refl
start-more (g ∷ seen) f i p =
    by_test (eqb i g.id) (λ e. rw (e, ne_eqb g.start 0 (λ q. omega (arith, p.0)))) (λ e. rw e (start-more seen f i p.1))

or_nothing : (v : ℕ) → (when eqb v 0 then 0 else v) ≡ v
unfolding when◌then◌else◌
or_nothing v = by_test (eqb v 0) (λ e. rw (e, eqb-true v 0 e)) (λ e. rw e)

-- a start noted: what stands at its own ID, if none came before, and at any other
noted_long : (starts : List ℕ) (j start : ℕ) → length (noted starts j start) ≡ length starts
unfolding noted when◌then◌else◌
noted_long starts j start = by_test (ltb j 16 && eqb (get_or starts j 0) 0) (λ e. rw e (length-set starts j start)) (λ e. rw e)

noted-same : (starts : List ℕ) (j start : ℕ) → length starts ≡ 16 → j < 16 → get_or starts j 0 ≡ 0 →
    get_or (noted starts j start) j 0 ≡ start
unfolding noted when◌then◌else◌
noted-same starts j start l h z = rw (lt-ltb j 16 h, z) (get_or-set_same starts j start 0 (omega arith))

noted_other : (starts : List ℕ) (j start i : ℕ) → eqb i j ≡ false → get_or (noted starts j start) i 0 ≡ get_or starts i 0
unfolding noted when◌then◌else◌
noted_other starts j start i e =
    by_test (ltb j 16 && eqb (get_or starts j 0) 0) (λ t. rw t (get_or-set_other starts j i start 0 (eqb-false i j e))) (λ t. rw t)

-- a field of the table that has not come before, noted: its start, and that it has come
module _ (starts : List ℕ) (seen : List FieldFound) (f : FieldFound) (p : Placed seen) (n : Notes starts seen)
    (low : f.id < 16) (new : has_come starts f.id ≡ false) where
  abbrev after : List ℕ
  after = noted starts f.id f.start

  not_yet : get_or starts f.id 0 ≡ 0
  not_yet = eqb-true (get_or starts f.id 0) 0 (not-false _ (rw (lt-ltb f.id 16 low) at new))

  its_own : get_or after f.id 0 ≡ f.start
  its_own = noted-same starts f.id f.start n.long low not_yet

  has_more : (i : ℕ) → i < 16 → get_or after i 0 ≡ start_of (seen ++ (f ∷ [])) i
  unfolding when◌then◌else◌
  has_more i h =
      by_test (eqb i f.id)
      (λ e.
      rw (eqb-true i f.id e)
      (its_own ∙ sym (start-more seen f f.id p ∙ rw (sym (n.has f.id low) ∙ not_yet, eq-eqb f.id f.id refl))))
      (λ e. noted_other starts f.id f.start i e ∙ n.has i h ∙ sym (start-more seen f i p ∙ rw e (or_nothing (start_of seen i))))

  note_more : Notes after (seen ++ (f ∷ []))
  note_more = record { long = noted_long starts f.id f.start ∙ n.long; has = has_more }

  come_more : (before : List ℕ) → 0 < f.start → ((i : ℕ) → among before i ≡ has_come starts i) → (i : ℕ)
      → among (f.id ∷ before) i ≡ has_come after i
  unfolding among
  come_more before h same i =
      by_test (eqb i f.id)
      (λ e.
      let q : i ≡ f.id = eqb-true i f.id e in
      rw (e, q, lt-ltb f.id 16 low, its_own, ne_eqb f.start 0 (λ w. omega arith)))
      (λ e. rw (e, noted_other starts f.id f.start i e) (same i))

pub record Walking (s starts : List ℕ) (at : ℕ) : Type 0 where
  pub seen : List FieldFound
  pub before : List ℕ
  pub steps : ℕ
  pub enough : length s ≤ at + steps
  pub same : fields_in s ≡ all_infront seen (fields_from steps before s at)
  pub placed : Placed seen
  pub notes : Notes starts seen
  -- the array remembers which came before
  pub come : (i : ℕ) → among before i ≡ has_come starts i

pub walking_starts : (s starts : List ℕ) → starts ≡ replicate 16 0 → Walking s starts 12
unfolding fields_in start_of among
walking_starts s starts e =
    let none : (i : ℕ) → i < 16 → get_or starts i 0 ≡ 0 = λ i h. rw e (get_or-replicate 16 i 0 0 h) in
    record {
      seen = [];
      before = [];
      steps = length s;
      enough = omega arith;
      same = refl;
      placed = tt;
      notes = record { long = ap length e; has = none };
      come = λ i. by_test (ltb i 16) (λ t. rw (t, none i (ltb-true i 16 t))) (λ t. rw t);
    }

-- while there is a field to judge, a step is left
pub record Ahead (s : List ℕ) (at steps : ℕ) (before : List ℕ) : Type 0 where
  pub fewer : ℕ
  pub one_less : steps ≡ suc fewer
  pub goes : fields_from steps before s at ≡ step_then before (step_at s at) (λ past next. fields_from fewer past s next)

ahead : (s : List ℕ) (at steps : ℕ) (before : List ℕ) → at < length s → length s ≤ at + steps → Ahead s at steps before
unfolding fields_from
ahead s at zero before h e = absurd (omega arith)
ahead s at (suc fewer) before h e = record { fewer = fewer; one_less = refl; goes = refl }

walking_on : (s starts : List ℕ) (at : ℕ) (f : FieldFound) → step_at s at ≡ Field f → has_come starts f.id ≡ false
    → Walking s starts at → Walking s (noted starts f.id f.start) f.next
unfolding when◌then◌else◌
walking_on s starts at f e new w =
    let k : Sound s at f = step_sound s at f e in
    let a : Ahead s at w.steps w.before = ahead s at w.steps w.before k.lies.inside w.enough in
    let n : f.next ≡ at + padded (length_at s at) = next_there s at f k.lies in
    let b : f.start ≡ at + 2 = ap (λ (g : FieldFound). g.start) k.lies.is in
    let low : f.id < 16 = rw k.lies.is (listed_below (id_at s at) k.known) in
    let first : among w.before f.id ≡ false = w.come f.id ∙ new in
    record {
      seen = w.seen ++ (f ∷ []);
      before = f.id ∷ w.before;
      steps = a.fewer;
      enough = omega (arith, padded_least (length_at s at), w.enough, a.one_less);
      same =
          w.same ∙ ap (all_infront w.seen) (rw (e, first) at a.goes)
          ∙ sym (one_more w.seen f (fields_from a.fewer (f.id ∷ w.before) s f.next));
      placed = placed-more w.seen f w.placed (omega arith);
      notes = note_more starts w.seen f w.placed w.notes low new;
      come = come_more starts w.seen f w.placed w.notes low new w.before (omega arith) w.come;
    }

-- a field that is skipped changes nothing but the place
walking_past : (s starts : List ℕ) (at : ℕ) (f : FieldFound) → step_at s at ≡ Skipped f → Walking s starts at → Walking s starts f.next
walking_past s starts at f e w =
    let k : Inside s at f = step_inside s at f e in
    let a : Ahead s at w.steps w.before = ahead s at w.steps w.before k.inside w.enough in
    let n : f.next ≡ at + padded (length_at s at) = next_there s at f k in
    record {
      seen = w.seen;
      before = w.before;
      steps = a.fewer;
      enough = omega (arith, padded_least (length_at s at), w.enough, a.one_less);
      same = w.same ∙ ap (all_infront w.seen) (rw e at a.goes);
      placed = w.placed;
      notes = w.notes;
      come = w.come;
    }

ends_whole : (s : List ℕ) (at steps : ℕ) (before : List ℕ) → step_at s at ≡ End → fields_from steps before s at ≡ whole []
unfolding fields_from
ends_whole s at zero before e = refl
ends_whole s at (suc fewer) before e = rw e

walked_whole : (s starts : List ℕ) (at : ℕ) → step_at s at ≡ End → Walking s starts at → Walked (fields_in s) (Ok tt) starts
walked_whole s starts at e w =
    rw (w.same ∙ ap (all_infront w.seen) (ends_whole s at w.steps w.before e) ∙ to_the_end w.seen) w.notes

-- a fault: the step is no end, and adds no field
walked_fault : (s starts : List ℕ) (at : ℕ) (r : Refusal) → (step_at s at ≡ End → ⊥) → (w : Walking s starts at)
    → ((rest : List ℕ → ℕ → Fields) → step_then w.before (step_at s at) rest ≡ fault (refusal_number r))
    → Walked (fields_in s) (Err r) no_starts
walked_fault s starts at r not_end w faulty =
    by_test (leb (length s) at) (λ t. absurd (not_end (step_end s at (leb-true (length s) at t))))
    (λ t.
    let a : Ahead s at w.steps w.before = ahead s at w.steps w.before (leb-false (length s) at t) w.enough in
    rw (w.same ∙ ap (all_infront w.seen) (a.goes ∙ faulty (λ past next. fields_from a.fewer past s next))
    ∙ to_a_fault w.seen (refusal_number r))
    (refl, refl, refl))

differ : ◌≡◌ {A = ℕ} 0 1 → ⊥
differ z = omega arith

-- at a field that came before, by itself sound or against the table, the walk ends with 14
walked_repeated : (s starts : List ℕ) (at : ℕ) (f : FieldFound) → step_at s at ≡ Field f → has_come starts f.id ≡ true
    → Walking s starts at → Walked (fields_in s) (Err Refusal.Repeated) no_starts
unfolding when◌then◌else◌
walked_repeated s starts at f e come w =
    walked_fault s starts at Refusal.Repeated (λ q. differ (cc)) w (λ rest. rw (e, w.come f.id ∙ come))

walked_against : (s starts : List ℕ) (at i : ℕ) → step_at s at ≡ AgainstTheTable i → Walking s starts at
    → Walked (fields_in s) (Err (when has_come starts i then Refusal.Repeated else Refusal.AgainstTheTable)) no_starts
unfolding when◌then◌else◌
walked_against s starts at i e w =
    by_test (has_come starts i)
    (λ t. rw t (walked_fault s starts at Refusal.Repeated (λ q. differ (cc)) w (λ rest. rw (e, w.come i ∙ t))))
    (λ t. rw t (walked_fault s starts at Refusal.AgainstTheTable (λ q. differ (cc)) w (λ rest. rw (e, w.come i ∙ t))))

-- a turn goes on towards the end
walking_less : (s : List ℕ) (at : ℕ) (f : FieldFound) → Inside s at f → length s - f.next < length s - at
walking_less s at f k =
    let n : f.next ≡ at + padded (length_at s at) = next_there s at f k in
    omega (arith, padded_least (length_at s at), k.inside)

-- what is left in the array, by how the walk ended
abbrev pub left : Result (Unit {0}) Refusal → List ℕ → List ℕ
left (Ok done) starts = starts
left (Err r) starts = no_starts

-- the same by what the reader handed out, whatever it was
module _ (s starts : List ℕ) (at : ℕ) where
  pub walking_by : (x : FieldStep) → step_at s at ≡ x → is_passed starts x ≡ true → Walking s starts at →
      Walking s (noted_step starts x) (behind x at)
  walking_by (Field f) e h w = walking_on s starts at f e (not-true _ h) w
  walking_by (Skipped f) e h w = walking_past s starts at f e w
  walking_by End e h w = clash h refl
  walking_by PastTheEnd e h w = clash h refl
  walking_by (AgainstTheTable i) e h w = clash h refl

  pub nearer_by : (x : FieldStep) → step_at s at ≡ x → is_passed starts x ≡ true → length s - behind x at < length s - at
  nearer_by (Field f) e h = walking_less s at f (step_sound s at f e).lies
  nearer_by (Skipped f) e h = walking_less s at f (step_inside s at f e)
  nearer_by End e h = clash h refl
  nearer_by PastTheEnd e h = clash h refl
  nearer_by (AgainstTheTable i) e h = clash h refl

  walked_by : (x : FieldStep) → step_at s at ≡ x → is_passed starts x ≡ false → Walking s starts at →
      Walked (fields_in s) (ended_by (noted_step starts x) x) (left (ended_by (noted_step starts x) x) (noted_step starts x))
  walked_by (Field f) e h w = walked_repeated s starts at f e (not-false _ h) w
  walked_by (Skipped f) e h w = clash refl h
  walked_by End e h w = walked_whole s starts at e w
  walked_by PastTheEnd e h w = walked_fault s starts at Refusal.PastTheEnd (λ q. differ (cc)) w (λ rest. rw e)
  walked_by (AgainstTheTable i) e h w = walked_against s starts at i e w

  -- and by what the code knows where it goes out
  pub answers_by : (x : FieldStep) (after : List ℕ) (end : Result (Unit {0}) Refusal) → step_at s at ≡ x → is_passed starts x ≡ false →
      after ≡ noted_step starts x → end ≡ ended_by after x → Walking s starts at →
      Walked (fields_in s) end (left end after)
  answers_by x after end e h a d w = rw (d, a) (walked_by x e h w)
