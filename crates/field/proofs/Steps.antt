-- What one field's step answers, case by case, and what is known by each answer (`step-tells`). Assumes nothing.
use Prim.Native.Nat.{ℕ, ◌+◌, ◌≤◌, ◌<◌}
use mathlib.Core.Bool.{true, false}
use mathlib.Core.List.{List}
use mathlib.Core.Logic.{◌⊎◌, inl, inr}
use mathlib.Core.Path.{◌≡◌, refl, sym, ap, subst}
use lib.Dec.{leb, ltb}
use lib.ListN.{length}
use borrow.Author.Tests.{le-leb, lt-leb, le-ltb, lt-ltb, leb-true, leb-false, ltb-true, ltb-false}
use Rattle.words.specs.Choice.{when◌then◌else◌, by_test}
use Rattle.octets.specs.Octets.{be16}
use Rattle.message.specs.Table.{listed, against, padded}
use Rattle.field.specs.declared.FieldFound.{FieldFound}
use Rattle.field.specs.declared.FieldStep.{FieldStep}
use Rattle.field.specs.declared.FieldStep.TheVariants.{Field, Skipped, End, PastTheEnd, AgainstTheTable}
use Rattle.field.specs.Fields.{id_at, length_at, field_at, step_at}

module _ (s : List ℕ) (at : ℕ) where
  pub step_end : length s ≤ at → step_at s at ≡ End
  unfolding step_at when◌then◌else◌
  step_end h = rw (le-leb (length s) at h)

  pub step_high : at < length s → 192 ≤ id_at s at → step_at s at ≡ AgainstTheTable (id_at s at)
  unfolding step_at when◌then◌else◌
  step_high h i = rw (lt-leb (length s) at h, le-leb 192 (id_at s at) i)

  pub step_past : at < length s → id_at s at < 192 → length s < at + padded (length_at s at) → step_at s at ≡ PastTheEnd
  unfolding step_at when◌then◌else◌
  step_past h i p = rw (lt-leb (length s) at h, lt-leb 192 (id_at s at) i, lt-ltb (length s) (at + padded (length_at s at)) p)

  module _ (h : at < length s) (i : id_at s at < 192) (p : at + padded (length_at s at) ≤ length s) where
    pub step-skipped : listed (id_at s at) ≡ false → step_at s at ≡ Skipped (field_at s at)
    unfolding step_at when◌then◌else◌
    step-skipped k = rw (lt-leb (length s) at h, lt-leb 192 (id_at s at) i, le-ltb (length s) (at + padded (length_at s at)) p, k)

    module _ (k : listed (id_at s at) ≡ true) where
      pub step-against : against (id_at s at) (length_at s at) (be16 s (at + 2)) ≡ true → step_at s at ≡ AgainstTheTable (id_at s at)
      unfolding step_at when◌then◌else◌
      step-against a = rw (lt-leb (length s) at h, lt-leb 192 (id_at s at) i, le-ltb (length s) (at + padded (length_at s at)) p, k, a)

      pub step_field : against (id_at s at) (length_at s at) (be16 s (at + 2)) ≡ false → step_at s at ≡ Field (field_at s at)
      unfolding step_at when◌then◌else◌
      step_field a = rw (lt-leb (length s) at h, lt-leb 192 (id_at s at) i, le-ltb (length s) (at + padded (length_at s at)) p, k, a)

-- what is known where a step gave each of its answers: this taken apart the other way round, once for all who walk
pub record Inside (s : List ℕ) (at : ℕ) (f : FieldFound) : Type 0 where
  pub inside : at < length s
  pub fits : at + padded (length_at s at) ≤ length s
  pub is : f ≡ field_at s at

-- where the next field starts
pub next_there : (s : List ℕ) (at : ℕ) (f : FieldFound) → Inside s at f → f.next ≡ at + padded (length_at s at)
next_there s at f k = ap (λ (g : FieldFound). g.next) k.is

-- of a field of the table moreover that it is there, and not against it
pub record Sound (s : List ℕ) (at : ℕ) (f : FieldFound) : Type 0 where
  pub lies : Inside s at f
  pub known : listed (id_at s at) ≡ true
  pub fine : against (id_at s at) (length_at s at) (be16 s (at + 2)) ≡ false

abbrev pub Tells : List ℕ → ℕ → FieldStep → Type 0
Tells s at (Field f) = Sound s at f
Tells s at (Skipped f) = Inside s at f
Tells s at End = length s ≤ at
Tells s at PastTheEnd = (at < length s) × (id_at s at < 192) × (length s < at + padded (length_at s at))
Tells s at (AgainstTheTable i) =
    (i ≡ id_at s at)
    × (at < length s)
    × ((192 ≤ id_at s at)
    ⊎ (at + padded (length_at s at) ≤ length s) × (against (id_at s at) (length_at s at) (be16 s (at + 2)) ≡ true))

pub step-tells : (s : List ℕ) (at : ℕ) → Tells s at (step_at s at)
step-tells s at =
    by_test (leb (length s) at)
    (λ t. let h = leb-true (length s) at t in tells End (step_end s at h) h)
    (λ t.
    let h : at < length s = leb-false (length s) at t in
    by_test (leb 192 (id_at s at))
    (λ u. let i = leb-true 192 (id_at s at) u in tells (AgainstTheTable (id_at s at)) (step_high s at h i) (refl, h, inl i))
    (λ u.
    let i : id_at s at < 192 = leb-false 192 (id_at s at) u in
    by_test (ltb (length s) (at + padded (length_at s at)))
    (λ v. let p = ltb-true (length s) (at + padded (length_at s at)) v in tells PastTheEnd (step_past s at h i p) (h, i, p))
    (λ v.
    let p : at + padded (length_at s at) ≤ length s = ltb-false (length s) (at + padded (length_at s at)) v in
    let l : Inside s at (field_at s at) = record { inside = h; fits = p; is = refl } in
    by_test (listed (id_at s at))
    (λ k.
    by_test (against (id_at s at) (length_at s at) (be16 s (at + 2)))
    (λ w. tells (AgainstTheTable (id_at s at)) (step-against s at h i p k w) (refl, h, inr (p, w)))
    (λ w. tells (Field (field_at s at)) (step_field s at h i p k w) (record { lies = l; known = k; fine = w })))
    (λ k. tells (Skipped (field_at s at)) (step-skipped s at h i p k) l))))
  where
    tells : (x : FieldStep) → step_at s at ≡ x → Tells s at x → Tells s at (step_at s at)
    tells x e t = subst (Tells s at) (sym e) t

pub step_sound : (s : List ℕ) (at : ℕ) (f : FieldFound) → step_at s at ≡ Field f → Sound s at f
step_sound s at f e = subst (Tells s at) e (step-tells s at)

pub step_inside : (s : List ℕ) (at : ℕ) (f : FieldFound) → step_at s at ≡ Skipped f → Inside s at f
step_inside s at f e = subst (Tells s at) e (step-tells s at)
