-- A desk that is made is a fresh one, in octets in the form. Assumes nothing.
use Rattle.desk_octets.specs.Places.{desk_size}
use Prim.Native.Nat.{ℕ, ◌+◌}
use mathlib.Core.Path.{◌≡◌, refl, ap, sym, subst, ◌∙◌}
use mathlib.Core.Bool.{true}
use mathlib.Core.List.{List}
use lib.Dec.{eqb, leb}
use lib.IntN.{ℤ}
use lib.ListN.{length, take, drop}
use lib.Seq.{take-append_seam}
use borrow.Author.Tests.{eqb-true, le-leb}
use Rattle.words.proofs.Tests.{clash}
use Rattle.signed.specs.Signed.{Succeeds}
use Rattle.signed.proofs.Signed.{not_done}
use Rattle.words.specs.Choice.{when◌then◌else◌, by_if}
use Rattle.octets.specs.Octets.{over}
use Rattle.hall.specs.declared.Settings.{Settings}
use Rattle.events.specs.declared.Desk.{Desk}
use Rattle.history.specs.Doing.{made}
use Rattle.desk_octets.proofs.Lengths.{length-octets}
use Rattle.desk_making.specs.Making.{desk_written, settable, make_on}
use Rattle.floor_laws.specs.Kept.{octets_for, Holds, Settable, desk_in, Makes, MadeInForm}
use Rattle.floor_laws.proofs.Desks.{Right, right_made, has-octets}

-- the first octets of a room that some were written into are those
pub first_over : (room xs : List ℕ) → take (length xs) (over room 0 xs) ≡ xs
unfolding over
first_over room xs = take-append_seam xs (drop (0 + length xs) room)

first_written : (room : List ℕ) (d : Desk) → desk_in (over room 0 (octets_for d)) ≡ octets_for d
first_written room d =
    ap (λ (n : ℕ). take n (over room 0 (octets_for d))) (sym (length-octets d.core d.hall d.names)) ∙ first_over room (octets_for d)

module _ (d : Desk) where
  abbrev pub Written : ℤ × List ℕ → Type 0
  Written w = Succeeds w.0 → Holds (desk_in w.1) d

  pub written_so : (room : List ℕ) (n k : ℕ) → (n ≡ 0 → Right d) → Written (desk_written room n k d.core d.hall d.names)
  unfolding desk_written
  written_so room n k right =
      by_if Written (eqb n 0)
      (λ e. by_if Written (leb desk_size (length room)) (λ _ _. rw (first_written room d) (has-octets d (right (eqb-true n 0 e))))
      (λ _ z. clash z refl))
      (λ e z. clash z (not_done n e))

pub makes : Makes
unfolding desk_written when◌then◌else◌
makes room g n room' p q l = ap (λ (w : ℤ × List ℕ). w.0) p ∙ rw (q, le-leb desk_size (length room) l)

-- settings that are refused make none
settable_so : (room : List ℕ) (g : Settings) → Succeeds (make_on room g).0 → settable g ≡ true
settable_so room g = by_if (λ (w : ℤ × List ℕ). Succeeds w.0 → settable g ≡ true) (settable g) (λ q _. q) (λ _ z. clash z refl)

pub made_in_form : MadeInForm
made_in_form room g n room' p z b =
    let k : Settable g = (settable_so room g (subst (λ (w : ℤ × List ℕ). Succeeds w.0) p z), b) in
    let h : Written (made g) (make_on room g) =
    by_if (Written (made g)) (settable g) (λ _. written_so (made g) room 0 0 (λ _. right_made g k)) (λ _ y. clash y refl) in
    (k, subst (λ (w : ℤ × List ℕ). Written (made g) w) (sym p) h z)
