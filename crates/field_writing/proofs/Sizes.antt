-- How many octets a field takes at most, and that it takes a multiple of 4. Assumes nothing.
use Prim.Native.Nat.{ℕ, ◌+◌, ◌%◌, ◌≤◌}
use native.Mathlib.Omega.{arith}
use mathlib.Core.Path.{◌≡◌, refl}
use Rattle.std.specs.Prelude.{Option, None, Some}
use Rattle.message.specs.Table.{padding, padded}
use Rattle.message.specs.declared.QueueInfo.{QueueInfo}
use Rattle.message.specs.declared.Part.{Part}
use Rattle.message.specs.declared.RejectCause.{RejectCause}
use Rattle.message.specs.Message.{count_of, phrase_count}
use Rattle.message.proofs.Paddings.{padded_whole}
use Rattle.field_writing.specs.Puts.{size_of, octet_size, word_size, queue_size, number_size, part_size, cause_size}

-- at most so many octets, and a multiple of 4
pub record Whole (size most : ℕ) : Type 0 where
  pub whole : size % 4 ≡ 0
  pub small : size ≤ most

pub field_whole : {X : Type 0} (count : X → ℕ) (most : ℕ) (o : Option X) → ((x : X) → o ≡ Some x → padded (count x) ≤ most) →
    Whole (size_of count o) most
field_whole count most None h = omega arith
field_whole count most (Some x) h = record { whole = padded_whole (count x); small = h x refl }

pub octet_whole : (o : Option ℕ) → Whole (octet_size o) 4
unfolding padded padding
octet_whole o = field_whole (λ n. 1) 4 o (λ n e. omega arith)

pub word_whole : (o : Option ℕ) → Whole (word_size o) 4
unfolding padded padding
word_whole o = field_whole (λ n. 2) 4 o (λ n e. omega arith)

pub queue_whole : (o : Option QueueInfo) → Whole (queue_size o) 4
unfolding padded padding
queue_whole o = field_whole (λ q. 2) 4 o (λ q e. omega arith)

pub number_whole : (o : Option ℕ) → Whole (number_size o) 8
unfolding padded padding
number_whole o = field_whole (λ n. 4) 8 o (λ n e. omega arith)

pub part_whole : (o : Option Part) → count_of o ≤ 62 → Whole (part_size o) 64
unfolding padded padding
part_whole o h = field_whole (λ p. p.count) 64 o (λ p e. let h' = rw e at h in omega arith)

pub cause_whole : (o : Option RejectCause) → phrase_count o ≤ 253 → Whole (cause_size o) 260
unfolding padded padding
cause_whole o h = field_whole (λ c. c.phrase.count + 2) 260 o (λ c e. let h' = rw e at h in omega arith)

-- two such runs, one behind the other
pub both_whole : {a b : ℕ} (x y : ℕ) → Whole a x → Whole b y → Whole (a + b) (x + y)
both_whole x y p q = record { whole = omega (arith, p.whole, q.whole); small = omega (arith, p.small, q.small) }
