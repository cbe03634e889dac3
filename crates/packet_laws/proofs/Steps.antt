-- As many steps as there are octets are enough for every packet: each field has at least 4 octets. Assumes nothing.
use Prim.Native.Nat.{ℕ, zero, suc, ◌+◌, ◌≤◌}
use native.Mathlib.Nat.{zero-add, suc-add}
use native.Mathlib.Omega.{arith}
use mathlib.Core.Path.{◌≡◌, refl}
use mathlib.Core.List.{List, [], ◌∷◌}
use lib.ListN.{length}
use Rattle.field.specs.declared.FieldFound.{FieldFound}
use Rattle.field.specs.declared.FieldStep.{FieldStep}
use Rattle.field.specs.Fields.{whole, step_then, step_at, fields_from, fields_in, length_at}
use Rattle.header.specs.Header.{header_size}
use Rattle.packet_laws.specs.Again.{StepsSuffice}
use Rattle.message.proofs.Paddings.{padded_least}
use Rattle.field.proofs.Steps.{step_end, Inside, next_there, step_sound, step_inside}

at_the_end : (s before : List ℕ) (more p : ℕ) → length s ≤ p → fields_from more before s p ≡ whole []
unfolding fields_from
at_the_end s before zero p h = refl
at_the_end s before (suc more) p h = rw (step_end s p h)

enough : (s before : List ℕ) (steps more p : ℕ) → length s ≤ p + steps
    → fields_from (steps + more) before s p ≡ fields_from steps before s p
unfolding fields_from
enough s before zero more p h = rw zero-add (at_the_end s before more p (omega arith))
enough s before (suc steps) more p h = rw suc-add (go (step_at s p) refl (λ past q l. enough s past steps more q l))
  where
    nearer : (f : FieldFound) → Inside s p f → length s ≤ f.next + steps
    nearer f k = omega (arith, next_there s p f k, padded_least (length_at s p))

    go : (t : FieldStep) → step_at s p ≡ t
        → ((past : List ℕ) (q : ℕ) → length s ≤ q + steps → fields_from (steps + more) past s q ≡ fields_from steps past s q)
        → step_then before t (λ past next. fields_from (steps + more) past s next)
        ≡ step_then before t (λ past next. fields_from steps past s next)
    go FieldStep.End e rest = refl
    go FieldStep.PastTheEnd e rest = refl
    go (FieldStep.AgainstTheTable i) e rest = refl
    go (FieldStep.Field f) e rest = rw (rest (f.id ∷ before) f.next (nearer f (step_sound s p f e).lies))
    go (FieldStep.Skipped f) e rest = rest before f.next (nearer f (step_inside s p f e))

pub steps_suffice : StepsSuffice
unfolding fields_in
steps_suffice s more = enough s [] (length s) more header_size (omega arith)
