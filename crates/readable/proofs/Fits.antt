-- Which fields can be against the table, and the numbers by which the code tells.
--     all_fitting   where the parts lie in the source, no field is against the table just where `fitting` says so
--     held_by       what a readable message gives to the functions that lay its fields
-- Assumes nothing.
use Prim.Native.Nat.{ℕ, ◌+◌, ◌≤◌}
use native.Mathlib.Nat.{add-zero}
use native.Mathlib.Omega.{arith}
use mathlib.Core.Bool.{Bool, true, false, not, ◌&&◌, ◌||◌, and-true, and_assoc}
use mathlib.Core.List.{List, [], ◌∷◌, ◌++◌}
use mathlib.Core.Path.{◌≡◌, refl, ◌∙◌}
use lib.Dec.{ltb, leb}
use borrow.Author.Tests.{ltb-true, ltb-false, leb-true, leb-false, lt-leb, le-leb}
use Rattle.std.specs.Prelude.{Option, None, Some}
use Rattle.words.specs.Choice.{when◌then◌else◌, by_test}
use Rattle.words.specs.Below.{and_left, and_right}
use Rattle.octets.specs.Octets.{be16, octets16, octets32, part}
use Rattle.octets.proofs.Over.{length_part}
use Rattle.octets.proofs.Numbers.{be16_of}
use Rattle.message.specs.Table.{against, at_fault, row_of, row_in, length_of}
use Rattle.message.specs.Message.{of_octet, of_word, of_number, of_queue, of_part, of_cause, said, fields_of, complete, part_lies}
use Rattle.message.specs.Message.{phrase_lies, lies}
use Rattle.message.specs.Message.{count_of, phrase_count}
use Rattle.message.specs.declared.Part.{Part}
use Rattle.message.specs.declared.QueueInfo.{QueueInfo}
use Rattle.message.specs.declared.RejectCause.{RejectCause}
use Rattle.message.specs.declared.Message.{Message}
use Rattle.readable.specs.Readable.{fits, all_fit, readable}
use Rattle.readable.specs.Fitting.{Short, FieldsFit, phrase_fits, identity_fits, content_fits, fitting}
use Rattle.message.proofs.Parts.{part_lies_lem, phrase_lies_lem}

-- a field of one length and of any content is never against the table
octet_free : (i : ℕ) → (row_of i).spare ≡ 1 → ((x : ℕ) → against i 2 x ≡ false) → (o : Option ℕ) → fits i (of_octet o) ≡ true
octet_free i s f None = refl
octet_free i s f (Some n) = rw (s, f (be16 (n ∷ []) 0))

word_free : (i : ℕ) → (row_of i).spare ≡ 0 → ((x : ℕ) → against i 2 x ≡ false) → (w : Option ℕ) → fits i (of_word w) ≡ true
unfolding octets16
word_free i s f None = refl
word_free i s f (Some n) = rw (s, f (be16 (octets16 n) 0))

queue_free : (q : Option QueueInfo) → fits 3 (of_queue q) ≡ true
unfolding against at_fault row_in when◌then◌else◌
queue_free None = refl
queue_free (Some q) = refl

number_free : (x : Option ℕ) → fits 14 (of_number x) ≡ true
unfolding against at_fault row_in when◌then◌else◌ octets16 octets32
number_free None = refl
number_free (Some n) = refl

-- a number that the table limits
word_limited : (i : ℕ) → (row_of i).spare ≡ 0 → ((x : ℕ) → against i 2 x ≡ at_fault i x) → (w : Option ℕ) →
    fits i (of_word w) ≡ content_fits i w
unfolding octets16
word_limited i s f None = refl
word_limited i s f (Some n) = rw (s, f (be16 (octets16 n) 0), be16_of n)

-- a length that the table limits
between : (l g n : ℕ) → not (ltb n l || ltb g n || false) ≡ (leb l n && leb n g)
between l g n =
    by_test (ltb n l) (λ t. rw (t, lt-leb l n (ltb-true n l t)))
    (λ t.
    rw (t, le-leb l n (ltb-false n l t))
    (by_test (ltb g n) (λ u. rw (u, lt-leb n g (ltb-true g n u))) (λ u. rw (u, le-leb n g (ltb-false g n u)))))

identity_limited : (i : ℕ) → (row_of i).spare ≡ 0 → ((l x : ℕ) → against i l x ≡ (ltb l 1 || ltb 62 l || false)) →
    (src : List ℕ) (p : Option Part)
    → part_lies src p ≡ true → fits i (of_part src p) ≡ identity_fits p
identity_limited i s f src None h = refl
identity_limited i s f src (Some p) h =
    rw (s, add-zero, length_part src p.from p.count (part_lies_lem src refl h), f p.count (be16 (part src p.from p.count) 0))
    (between 1 62 p.count)

fits_by : (i l : ℕ) (content : List ℕ) → length_of i content ≡ l → fits i (Some content) ≡ not (against i l (be16 content 0))
fits_by i l content e = rw e

phrase_limited : (src : List ℕ) (x : Option RejectCause) → phrase_lies src x ≡ true → fits 2 (of_cause src x) ≡ phrase_fits x
unfolding against at_fault row_in when◌then◌else◌ octets16
phrase_limited src None h = refl
phrase_limited src (Some c) h =
    let count = c.phrase.count in
    let e = length_part src c.phrase.from count (phrase_lies_lem src {c = c} refl h) in
    fits_by 2 (count + 2) (octets16 c.cause ++ part src c.phrase.from count) (omega arith)
    ∙ between 2 255 (count + 2)
    ∙ rw (le-leb 2 (count + 2) (omega arith))
    (by_test (leb count 253)
    (λ t. let k = leb-true count 253 t in rw (t, le-leb (count + 2) 255 (omega arith)))
    (λ t. let k = leb-false count 253 t in rw (t, lt-leb (count + 2) 255 (omega arith))))

twelve : {a b c d e f g h i j k l c' e' f' g' i' : Bool} → a ≡ true → b ≡ true → c ≡ c' → d ≡ true → e ≡ e' → f ≡ f' → g ≡ g' → h ≡ true →
    i ≡ i' → j ≡ true
    → k ≡ true → l ≡ true →
    (a && (b && (c && (d && (e && (f && (g && (h && (i && (j && (k && (l && true)))))))))))) ≡ (c' && e' && f' && g' && i')
twelve pa pb pc pd pe pf pg ph pi pj pk pl = rw (pa, pb, pc, pd, pe, pf, pg, ph, pi, pj, pk, pl) (simp (and-true, and_assoc))

record Lying (m : Message) (src : List ℕ) : Type 0 where
  granted : part_lies src m.granted ≡ true
  user : part_lies src m.user ≡ true
  phrase : phrase_lies src m.cause ≡ true

lying : (m : Message) (src : List ℕ) → lies m src ≡ true → Lying m src
unfolding lies
lying m src h =
    let g = part_lies src m.granted in
    let u = part_lies src m.user in
    let p = phrase_lies src m.cause in
    record { granted = and_left g u (and_left (g && u) p h); user = and_right g u (and_left (g && u) p h); phrase = and_right (g && u) p h }

pub all_fitting : (m : Message) (src : List ℕ) → lies m src ≡ true → all_fit (fields_of m src) ≡ fitting m
unfolding all_fit fitting against at_fault row_in when◌then◌else◌
all_fitting m src h =
    let l = lying m src h in
    twelve
    (octet_free 0 refl (λ x. refl) m.priority)
    (word_free 1 refl (λ x. refl) m.duration)
    (phrase_limited src m.cause l.phrase)
    (queue_free m.queue)
    (identity_limited 4 refl (λ l x. refl) src m.granted l.granted)
    (word_limited 5 refl (λ x. refl) m.permission)
    (identity_limited 6 refl (λ l x. refl) src m.user l.user)
    (word_free 8 refl (λ x. refl) m.sequence)
    (word_limited 10 refl (λ x. refl) m.source)
    (octet_free 12 refl (λ x. refl) m.message_type)
    (word_free 13 refl (λ x. refl) m.indicator)
    (number_free m.ssrc_field)

-- the three tests of a readable message, in the order of the code
pub readable_by : (m : Message) (src : List ℕ) → readable m src ≡ (lies m src && fitting m && complete (said m src))
unfolding readable said
readable_by m src =
    by_test (lies m src) (λ t. rw (t, all_fitting m src t)) (λ t. rw t)

identity_short : (p : Option Part) → identity_fits p ≡ true → count_of p ≤ 62
identity_short None h = omega arith
identity_short (Some p) h = leb-true p.count 62 (and_right (leb 1 p.count) (leb p.count 62) h)

phrase_short : (x : Option RejectCause) → phrase_fits x ≡ true → phrase_count x ≤ 253
phrase_short None h = omega arith
phrase_short (Some c) h = leb-true c.phrase.count 253 h

short_by : (m : Message) → fitting m ≡ true → Short m
unfolding fitting
short_by m h =
    let p = phrase_fits m.cause in
    let g = identity_fits m.granted in
    let f = content_fits 5 m.permission in
    let u = identity_fits m.user in
    let h₄ : (p && g && f && u) ≡ true = and_left (p && g && f && u) (content_fits 10 m.source) h in
    let h₂ : (p && g) ≡ true = and_left (p && g) f (and_left (p && g && f) u h₄) in
    record {
      granted = identity_short m.granted (and_right p g h₂);
      user = identity_short m.user (and_right (p && g && f) u h₄);
      phrase = phrase_short m.cause (and_left p g h₂);
    }

pub held_by : (m : Message) (src : List ℕ) → readable m src ≡ true → FieldsFit m src
held_by m src r =
    let h : (lies m src && fitting m) ≡ true = and_left (lies m src && fitting m) (complete (said m src)) (rw (readable_by m src) at r) in
    let l = lying m src (and_left (lies m src) (fitting m) h) in
    record { short = short_by m (and_right (lies m src) (fitting m) h); granted = l.granted; user = l.user; phrase = l.phrase }
