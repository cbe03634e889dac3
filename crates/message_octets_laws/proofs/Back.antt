-- A message is held in octets that hold it. Assumes nothing.
use Prim.Native.Nat.{ℕ, ◌%◌, ◌≤◌, ◌<◌}
use native.Mathlib.Nat.{mod-eq_of_lt}
use native.Mathlib.Omega.{arith}
use mathlib.Core.Bool.{Bool, true, false}
use mathlib.Core.List.{List, []}
use mathlib.Core.Path.{◌≡◌, refl, ap, ◌∙◌}
use Rattle.message.specs.Message.{count_of, is_there, of_queue, of_part, of_cause, has}
use Rattle.words.specs.Choice.{when◌then◌else◌, one}
use Rattle.octets.specs.Octets.{be16, be32, octets16, octets32}
use Rattle.octets.proofs.Numbers.{be16_of, be32_back}
use Rattle.message.proofs.Types.{type_back}
use Rattle.std.specs.Prelude.{Option, None, Some, option_map, unwrap_or}
use Rattle.std.specs.Bool.{then_some}
use Rattle.message.specs.declared.QueueInfo.{QueueInfo}
use Rattle.message.specs.declared.Part.{Part}
use Rattle.message.specs.declared.RejectCause.{RejectCause}
use Rattle.message.specs.declared.Message.{Message}
use Rattle.message_octets.specs.Held.{which, number_in, queue_in, reject_cause_in, phrase_in, part_start, no_part, part_in_four}
use Rattle.message_octets.specs.Held.{head_octets, first_octets, next_octets, part_octets, held_octets, message_with, unlisted_field}
use Rattle.message_octets.specs.Held.{held_at}
use Rattle.message_octets_laws.specs.Laws.{Near, HeldBack}
use Rattle.message_octets.proofs.Bits.{is_set_lem, flag_back}
use Rattle.message_octets.proofs.Answers.{held_is}
use Rattle.message_octets.specs.Places.{fields_place}

-- numbers and flags
place_there : (n : ℕ) → n < 65536 → be16 (octets16 (n % 65536)) 0 ≡ n
place_there n h = be16_of (n % 65536) ∙ mod-eq_of_lt h

count_there : (o : Option Part) → count_of o < 65536 → be16 (octets16 ((unwrap_or o no_part).count % 65536)) 0 ≡ count_of o
count_there None h = place_there 0 h
count_there (Some p) h = place_there p.count h

flag_small : (b : Bool) → one b ≤ 1
flag_small true = omega arith
flag_small false = omega arith

-- each field, from its bit and what it holds
field_back : {X : Type 0} (f : X → List ℕ) (o : Option X) (b : Bool) (x : X) → b ≡ is_there (option_map f o) →
    ((y : X) → o ≡ Some y → x ≡ y)
    → then_some b x ≡ o
field_back f None b x e q = rw e
field_back f (Some y) b x e q = rw (e, q y refl)

number_back : (f : ℕ → List ℕ) (o : Option ℕ) (b : Bool) (n : ℕ) → b ≡ is_there (option_map f o) → n ≡ number_in o → then_some b n ≡ o
number_back f o b n e q = field_back f o b n e (λ y h. q ∙ rw h)

queue_back : (o : Option QueueInfo) (b : Bool) → b ≡ is_there (of_queue o) → then_some b (queue_in o) ≡ o
queue_back o b e = field_back _ o b (queue_in o) e (λ y h. rw h)

part_is : (n k : ℕ) (p : Part) → n ≡ p.from → k ≡ p.count → ◌≡◌ {A = Part} (record { from = n; count = k }) p
part_is n k p q r = rw (q, r)

part_back : (o : Option Part) (b : Bool) (n k : ℕ) → b ≡ is_there (of_part [] o) → n ≡ part_start o → k ≡ count_of o
    → then_some b (record { from = n; count = k }) ≡ o
part_back o b n k e q r = field_back _ o b _ e (λ y h. part_is n k y (q ∙ rw h) (r ∙ rw h))

cause_back : (o : Option RejectCause) (b : Bool) (m n k : ℕ) → b ≡ is_there (of_cause [] o) → m ≡ reject_cause_in o
    → n ≡ part_start (phrase_in o) → k ≡ count_of (phrase_in o)
    → then_some b (record { cause = m; phrase = record { from = n; count = k } }) ≡ o
cause_back None b m n k e o q r = rw e
cause_back (Some c) b m n k e o q r = rw (e, o, q, r)

module _ (m : Message) where
  none_unlisted : unlisted_field (which m) ≡ false
  unfolding unlisted_field has when◌then◌else◌
  none_unlisted =
      rw (is_set_lem m 7 (omega arith), is_set_lem m 9 (omega arith), is_set_lem m 11 (omega arith), is_set_lem m 15 (omega arith))

  -- at each place stands what the message has there, and `has` computes the question of a bit to that of one field
  message_back : Near m → message_with m.kind (held_octets m) (which m) ≡ m
  unfolding message_with held_octets head_octets first_octets next_octets part_octets part_in_four octets16 octets32 be16 be32 has
      when◌then◌else◌
  message_back near = λ i. record {
    kind = m.kind;
    ack = flag_back m.ack i;
    ssrc = be32_back m.ssrc [] i;
    priority = number_back _ m.priority _ _ (is_set_lem m 0 (omega arith)) refl i;
    duration = number_back _ m.duration _ _ (is_set_lem m 1 (omega arith)) (be16_of (number_in m.duration)) i;
    cause =
        cause_back m.cause _ _ _ _ (is_set_lem m 2 (omega arith)) (be16_of (reject_cause_in m.cause))
        (place_there (part_start (phrase_in m.cause)) near.phrase.start)
        (count_there (phrase_in m.cause) near.phrase.count) i;
    queue = queue_back m.queue _ (is_set_lem m 3 (omega arith)) i;
    granted =
        part_back m.granted _ _ _ (is_set_lem m 4 (omega arith)) (place_there (part_start m.granted) near.granted.start)
        (count_there m.granted near.granted.count) i;
    permission = number_back _ m.permission _ _ (is_set_lem m 5 (omega arith)) (be16_of (number_in m.permission)) i;
    user =
        part_back m.user _ _ _ (is_set_lem m 6 (omega arith)) (place_there (part_start m.user) near.user.start)
        (count_there m.user near.user.count) i;
    sequence = number_back _ m.sequence _ _ (is_set_lem m 8 (omega arith)) (be16_of (number_in m.sequence)) i;
    source = number_back _ m.source _ _ (is_set_lem m 10 (omega arith)) (be16_of (number_in m.source)) i;
    message_type = number_back _ m.message_type _ _ (is_set_lem m 12 (omega arith)) refl i;
    indicator = number_back _ m.indicator _ _ (is_set_lem m 13 (omega arith)) (be16_of (number_in m.indicator)) i;
    ssrc_field = number_back _ m.ssrc_field _ _ (is_set_lem m 14 (omega arith)) (be32_back (number_in m.ssrc_field) []) i;
  }

  fields_back : be16 (held_octets m) fields_place ≡ which m
  unfolding held_octets head_octets first_octets next_octets part_octets part_in_four octets16 octets32 be16
  fields_back = be16_of (which m)

  back : Near m → held_at (held_octets m) ≡ Some m
  unfolding held_octets head_octets first_octets next_octets part_octets part_in_four octets16 octets32
  back near =
      held_is (held_octets m) (Some m.kind) refl (flag_small m.ack) (ap unlisted_field fields_back ∙ none_unlisted)
      (type_back m.kind)
      ∙ ap Some (ap (message_with m.kind (held_octets m)) fields_back ∙ message_back near)

pub held_back : HeldBack
held_back = back
