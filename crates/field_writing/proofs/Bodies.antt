-- Fields one behind the other.
--     body-append   the octets of some fields, then of others
--     lay_field     a field laid, then the fields behind it
--     field_fits    where a field and those behind it fit, the field does
--     field-rest    and those behind it fit where it ends
-- Assumes nothing.
use Prim.Native.Nat.{ℕ, ◌+◌, ◌≤◌}
use mathlib.Core.List.{List, [], ◌∷◌, ◌++◌, append_assoc}
use Rattle.std.specs.Prelude.{Option}
use mathlib.Core.Path.{◌≡◌, refl, sym, ap, ◌∙◌}
use lib.ListN.{length}
use Rattle.message.specs.Message.{Field, field}
use Rattle.field_writing.specs.Wire.{optional, body}
use Rattle.octets.specs.Octets.{Laid}
use Rattle.octets.proofs.Lays.{lay_none, lay_fits, lay_rest, lay_join}

pub body-append : (fs gs : List Field) → body (fs ++ gs) ≡ body fs ++ body gs
unfolding body
body-append [] gs = refl
body-append (f ∷ fs) gs =
    ap (λ (xs : List ℕ). optional f.id f.content ++ xs) (body-append fs gs)
    ∙ sym (append_assoc (optional f.id f.content) (body fs) (body gs))

pub lay_end : (room : List ℕ) (at : ℕ) → Laid room at (body []) room at
unfolding body
lay_end room at = lay_none room at

module _ (i : ℕ) (o : Option (List ℕ)) (fs : List Field) (room : List ℕ) (at : ℕ) (h : at + length (body (field i o ∷ fs)) ≤ length room)
  where
    pub field_fits : at + length (optional i o) ≤ length room
    unfolding body
    field_fits = lay_fits room at (optional i o) (body fs) h

    pub field-rest : {room₁ : List ℕ} {end : ℕ} → Laid room at (optional i o) room₁ end → end + length (body fs) ≤ length room₁
    unfolding body
    field-rest l = lay_rest (body fs) h l

    pub lay_field : {room₁ room₂ : List ℕ} {end end₂ : ℕ} → Laid room at (optional i o) room₁ end → Laid room₁ end (body fs) room₂ end₂
        → Laid room at (body (field i o ∷ fs)) room₂ end₂
    unfolding body
    lay_field l n = lay_join h l n
