-- The octets and the message that they hold: what is asked of the octets is what is asked of the message.
--     first_is      the first octet of the packet, out of the octets of the type and of the Ack bit
--     readable_is   what is asked of the octets is whether they hold a message that a reader would accept
--     holds         where they do, they hold the message of their type
--     size_none     the size where no bit is set
-- Assumes nothing.
use Prim.Native.Nat.{ℕ, ◌+◌, ◌*◌, ◌/◌, ◌%◌, ◌≤◌, ◌<◌}
use native.Mathlib.Omega.{arith}
use mathlib.Core.Bool.{Bool, true, false, ◌&&◌, and-false, and_comm}
use mathlib.Core.List.{List}
use mathlib.Core.Path.{◌≡◌, refl, sym, ap, ◌∙◌}
use lib.Dec.{eqb, ltb}
use lib.ListN.{length}
use borrow.Author.Tests.{eqb-true, eqb-false, ltb-true, ltb-false, ne_eqb, eq-eqb, lt-ltb, le-ltb}
use Rattle.header.specs.Header.{first_octet}
use Rattle.words.specs.Choice.{when◌then◌else◌, by_test}
use Rattle.words.proofs.Tests.{clash}
use Rattle.octets.specs.Octets.{be16, nth_octet}
use Rattle.message.specs.Types.{typed}
use Rattle.message.specs.Message.{required, is_there, has, has_all, complete, said, lies}
use Rattle.message.specs.Answers.{refused}
use Rattle.message.specs.declared.MessageType.{MessageType}
use Rattle.message.specs.declared.MessageType.TheVariants.{Request, Granted, Taken, Deny, Release, Idle, Revoke, QueuePositionRequest}
use Rattle.message.specs.declared.MessageType.TheVariants.{QueuePositionInfo, Ack}
use Rattle.std.specs.Prelude.{Option, None, Some, option_map}
use Rattle.std.specs.Bool.{then_some}
use Rattle.message.specs.declared.Message.{Message}
use Rattle.readable.specs.Readable.{readable}
use Rattle.readable.specs.Fitting.{fitting}
use Rattle.writing.specs.Puts.{front_size, rest_size}
use Rattle.message.proofs.Types.{type_small as small, type_named}
use Rattle.readable.proofs.Fits.{readable_by}
use Rattle.writing.proofs.Whole.{refused_12}
use Rattle.message_octets.specs.Held.{is_set, place_at, message_with}
use Rattle.message_octets.specs.Held.{unlisted_field, held_of_type, held_at, writing_of, written_of}
use Rattle.message_octets.proofs.Answers.{held_is}
use Rattle.message_writing.specs.Writes.{type_of, message_in, has_required, readable_in}
use Rattle.header.specs.Header.{header_size}
use Rattle.message_octets.specs.Places.{type_place, ack_place, fields_place, message_type_place, duration_place}
use Rattle.message_octets.specs.Places.{message_sequence_place, source_place}
use Rattle.message_octets.specs.Places.{granted_place, message_size}

pub type_small : (s : List ℕ) → typed (nth_octet s type_place) ≡ Some (type_of (typed (nth_octet s type_place))) →
    nth_octet s type_place ≤ 10
type_small s e =
    omega (
      arith,
      type_named (nth_octet s type_place) (type_of (typed (nth_octet s type_place))) e,
      small (type_of (typed (nth_octet s type_place))),
    )

pub first_is : (s : List ℕ) (fields : ℕ) → typed (nth_octet s type_place) ≡ Some (type_of (typed (nth_octet s type_place))) →
    nth_octet s ack_place ≤ 1
    → 128 + 16 * nth_octet s ack_place + nth_octet s type_place ≡ first_octet (message_in s fields).kind (message_in s fields).ack
unfolding message_in message_with first_octet when◌then◌else◌
first_is s fields e h =
    let n = type_named (nth_octet s type_place) (type_of (typed (nth_octet s type_place))) e in
    by_test (eqb (nth_octet s ack_place) 1) (λ t. let q = eqb-true (nth_octet s ack_place) 1 t in rw t (omega arith))
    (λ t. let q = eqb-false (nth_octet s ack_place) 1 t in rw t (omega arith))

-- the fields that a type requires, by their bits
given : {X : Type 0} (f : X → List ℕ) (b : Bool) (x : X) → is_there (option_map f (then_some b x)) ≡ b
given f true x = refl
given f false x = refl

one_of : {a b : Bool} → a ≡ b → (a && true) ≡ (b && true)
one_of e = rw e

complete_is : (k : MessageType) (s src : List ℕ) (fields : ℕ) →
    complete (said (message_with k s fields) src) ≡ has_all (is_set fields) (required k)
unfolding complete said has_all has message_with when◌then◌else◌
complete_is Request s src fields = refl
complete_is Granted s src fields = one_of (given _ (is_set fields 1) (be16 s duration_place))
complete_is Taken s src fields = one_of (given _ (is_set fields 4) (place_at s granted_place))
complete_is Deny s src fields = one_of (given _ (is_set fields 2) _)
complete_is Release s src fields = refl
complete_is Idle s src fields = one_of (given _ (is_set fields 8) (be16 s message_sequence_place))
complete_is Revoke s src fields = one_of (given _ (is_set fields 2) _)
complete_is QueuePositionRequest s src fields = refl
complete_is QueuePositionInfo s src fields = one_of (given _ (is_set fields 3) _)
complete_is Ack s src fields =
    rw (given _ (is_set fields 10) (be16 s source_place), given _ (is_set fields 12) (nth_octet s message_type_place))

-- the tests of each field, one field after the other, are the writer's tests
pub fits_order : (lp fp lg fg w lu fu v : Bool)
    → ((lp && fp) && (lg && fg) && w && (lu && fu) && v) ≡ ((lg && lu && lp) && (fp && fg && w && fu && v))
fits_order lp fp lg fg w lu fu v =
    by_test lp (λ a.
    by_test fp (λ b.
    by_test lg (λ d.
    by_test fg (λ e.
    by_test w (λ f.
    by_test lu (λ g.
    by_test fu (λ h. rw (a, b, d, e, f, g, h))
    (λ h. rw h (simp and-false))) (λ g. rw g (simp and-false))) (λ f. rw f (simp and-false))) (λ e. rw e (simp and-false)))
    (λ d. rw d (simp and-false)))
    (λ b. rw b (simp and-false))) (λ a. rw a (simp and-false))

judged : (s src : List ℕ) (t : Option MessageType)
    → (has_required t (be16 s fields_place)
    && (lies (message_in s (be16 s fields_place)) src && fitting (message_in s (be16 s fields_place))))
    ≡ readable_in (held_of_type t s) src
unfolding lies fitting message_in message_with
judged s src None = refl
judged s src (Some k) =
    let m = message_with k s (be16 s fields_place) in
    sym (readable_by m src
    ∙ rw (complete_is k s src (be16 s fields_place))
    (and_comm (lies m src && fitting m) (has_all (is_set (be16 s fields_place)) (required k))))

pub readable_is : (s src : List ℕ) {fields : ℕ} → fields ≡ be16 s fields_place → length s ≡ message_size → nth_octet s ack_place ≤ 1 →
    unlisted_field fields ≡ false
    → (has_required (typed (nth_octet s type_place)) fields && (lies (message_in s fields) src && fitting (message_in s fields)))
    ≡ readable_in (held_at s) src
readable_is s src e l a u =
    rw e (judged s src (typed (nth_octet s type_place)))
    ∙ ap (λ h. readable_in h src) (sym (held_is s (typed (nth_octet s type_place)) l a (ap unlisted_field (sym e) ∙ u) refl))

-- octets that are not in the form hold nothing
pub nothing_length : (s : List ℕ) → (length s ≡ message_size → ⊥) → held_at s ≡ None
unfolding held_at when◌then◌else◌
nothing_length s l = simp (ne_eqb _ _ l)

pub nothing_ack : (s : List ℕ) → length s ≡ message_size → 1 < nth_octet s ack_place → held_at s ≡ None
unfolding held_at when◌then◌else◌
nothing_ack s l a = simp (eq-eqb _ _ l, lt-ltb _ _ a)

pub nothing_unlisted : (s : List ℕ) → length s ≡ message_size → nth_octet s ack_place ≤ 1 → unlisted_field (be16 s fields_place) ≡ true →
    held_at s ≡ None
unfolding held_at when◌then◌else◌
nothing_unlisted s l a u = simp (eq-eqb _ _ l, le-ltb _ _ a, u)

-- octets that a reader would accept hold the message of their type
pub record Holds (s src : List ℕ) (fields : ℕ) : Type 0 where
  pub type : typed (nth_octet s type_place) ≡ Some (type_of (typed (nth_octet s type_place)))
  pub ack : nth_octet s ack_place ≤ 1
  pub is : held_at s ≡ Some (message_in s fields)
  pub accepted : readable (message_in s fields) src ≡ true

by_type : (s src : List ℕ) (t : Option MessageType) → typed (nth_octet s type_place) ≡ t → nth_octet s ack_place ≤ 1 →
    held_at s ≡ held_of_type t s →
    readable_in (held_at s) src ≡ true
    → Holds s src (be16 s fields_place)
unfolding message_in
by_type s src None e a h r = clash (sym (ap (λ x. readable_in x src) h) ∙ r) refl
by_type s src (Some k) e a h r = record { type = rw e; ack = a; is = rw e h; accepted = rw e (sym (ap (λ x. readable_in x src) h) ∙ r) }

pub holds : (s src : List ℕ) {fields : ℕ} → fields ≡ be16 s fields_place → length s ≡ message_size → readable_in (held_at s) src ≡ true →
    Holds s src fields
holds s src q l r =
    rw q
    (by_test (ltb 1 (nth_octet s ack_place))
    (λ a. clash (sym (ap (λ x. readable_in x src) (nothing_ack s l (ltb-true 1 (nth_octet s ack_place) a))) ∙ r) refl)
    (λ a.
    let a' = ltb-false 1 (nth_octet s ack_place) a in
    by_test (unlisted_field (be16 s fields_place)) (λ u. clash (sym (ap (λ x. readable_in x src) (nothing_unlisted s l a' u)) ∙ r) refl)
    (λ u. by_type s src (typed (nth_octet s type_place)) refl a' (held_is s (typed (nth_octet s type_place)) l a' u refl) r)))

-- where no bit is set there is no field
pub size_none : (s : List ℕ) (fields : ℕ) → fields ≡ 0 →
    header_size ≡ header_size + (front_size (message_in s fields) + rest_size (message_in s fields))
unfolding message_in message_with
size_none s fields e = rw e

-- the octets of one field by its bit
pub four_is : (n worth : ℕ) → n / worth % 2 * 4 ≡ (when eqb (n / worth % 2) 1 then 4 else 0)
unfolding when◌then◌else◌
four_is n worth =
    by_test (eqb (n / worth % 2) 1) (λ t. let q = eqb-true (n / worth % 2) 1 t in rw t (omega arith))
    (λ t. let q = eqb-false (n / worth % 2) 1 t in rw t (omega arith))

-- what is answered where no reader would accept what the octets hold
pub refused_in : (h : Option Message) (src room : List ℕ) → readable_in h src ≡ false
    → (refused 12 ≡ writing_of h src (length room)) × (room ≡ written_of h src room)
refused_in None src room r = (refl, refl)
refused_in (Some m) src room r = refused_12 m src room r
