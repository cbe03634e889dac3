-- What a call leaves in a desk's octets is in the form, and stands for the desk that the rules leave. Assumes nothing.
use Rattle.report_octets.specs.Places.{report_size}
use Rattle.desk_octets.specs.Places.{desk_size}
use Prim.Native.Nat.{ℕ}
use mathlib.Core.Path.{◌≡◌, refl, sym, subst, ◌∙◌}
use mathlib.Core.Bool.{true, false}
use mathlib.Core.List.{List}
use lib.Dec.{eqb, leb}
use lib.IntN.{ℤ}
use lib.ListN.{length}
use Rattle.words.specs.Choice.{when◌then◌else◌, by_if}
use Rattle.octets.specs.Octets.{over, Octets}
use Rattle.hall.specs.Answers.{answer_number}
use Rattle.hall.specs.declared.Newcomer.{Newcomer}
use Rattle.joining.specs.declared.Joined.{Joined}
use Rattle.joining.specs.Join.{join}
use Rattle.events.specs.declared.Desk.{Desk}
use Rattle.history.specs.Doing.{Doing, joins, does, after, after_all}
use Rattle.desk_octets.specs.Form.{core_at, hall_at, names_at}
use Rattle.desk_test.specs.Lent.{formed}
use Rattle.desk_steps.specs.Steps.{Leaves, step_leaves, settles, outcome_on}
use Rattle.desk_making.specs.Making.{desk_written, join_on, seat_taken}
use Rattle.message.specs.Answers.{refused, result}
use Rattle.signed.specs.Signed.{signed, answers}
use Rattle.signed.proofs.Signed.{not_done}
use Rattle.desk_test.proofs.Desks.{fits}
use Rattle.desk_octets.proofs.Facts.{fits_whole}
use Rattle.desk_octets.proofs.Forth.{over-desk}
use Rattle.floor_laws.specs.Kept.{desk_at, octets_for, Holds, Act, PromisedBy, meant, Fits, ActFits, DoingFits, did, StepInForm}
use Rattle.floor_laws.proofs.Desks.{Right, right_at, right_kept, has-octets}
use Rattle.floor_laws.proofs.Acts.{by_act}

-- a call
module _ (d : List ℕ) (o : Octets d) (q : formed d ≡ true) (k : Right (desk_at d)) where
  stays : Holds d (desk_at d)
  stays = record { octets = o; in_form = q; stands = refl }

  carried : (x : Doing) → DoingFits x → Holds (octets_for (after (desk_at d) x)) (after (desk_at d) x)
  carried x w = has-octets (after (desk_at d) x) (right_kept (desk_at d) x w k)

  abbrev Stands : Doing → Leaves → Type 0
  Stands x l = Holds l.desk (after_all (desk_at d) (did l.answer x))

  refused_so : (n : ℕ) (x : Doing) → eqb n 0 ≡ false → Holds d (after_all (desk_at d) (did (signed (refused n)) x))
  unfolding when◌then◌else◌
  refused_so n x e = rw (not_done n e) stays

  done_so : (s : List ℕ) (k : ℕ) (x : Doing) → Holds s (after (desk_at d) x) → Holds s (after_all (desk_at d) (did (signed (result k)) x))
  unfolding when◌then◌else◌
  done_so s k x w = w

  outcome_so : (r : List ℕ) (x : Doing) → DoingFits x → Stands x (outcome_on d r (does (desk_at d) x))
  unfolding outcome_on settles
  outcome_so r x w =
      let n = answer_number (does (desk_at d) x).answer in
      by_if (Stands x) (formed d)
      (λ _. by_if (Stands x) (eqb n 0)
      (λ _. by_if (Stands x) (leb report_size (length r)) (λ _. done_so _ 0 x (carried x w)) (λ _. refused_so 13 x refl))
      (λ e. refused_so n x e))
      (λ _. refused_so 20 x refl)

  module _ (r : List ℕ) (i : List ℕ) (n : Newcomer) (w : Fits i n) where
    abbrev Seated : ℤ × List ℕ → Type 0
    Seated z = Stands (joins i n) (step_leaves z.0 z.1 r)

    joined_so : (k : ℕ) → Seated (answers (result k) (over d 0 (octets_for (after (desk_at d) (joins i n)))))
    joined_so k =
        let x = after (desk_at d) (joins i n) in
        rw (over-desk d x.core x.hall x.names (fits_whole d (fits d q))) (done_so _ k (joins i n) (carried (joins i n) w))

    abbrev j : Joined
    j = join (hall_at d) (names_at d) i n

    written_so : Seated (desk_written d (answer_number j.answer) (seat_taken j.seat) (core_at d) j.hall j.names)
    unfolding desk_written does
    written_so =
        by_if Seated (eqb (answer_number j.answer) 0)
        (λ _. by_if Seated (leb desk_size (length d)) (λ _. joined_so (seat_taken j.seat)) (λ _. refused_so 13 (joins i n) refl))
        (λ e. refused_so (answer_number j.answer) (joins i n) e)

    pub join_so : Seated (join_on d i n)
    join_so = by_if Seated (formed d) (λ _. written_so) (λ _. refused_so 20 (joins i n) refl)

  -- so of what is promised
  pub call_so : (r : List ℕ) (n : ℤ) (d' r' : List ℕ) (a : Act) → PromisedBy a d r n d' r' → ActFits a →
      Stands (meant a) (step_leaves n d' r')
  call_so r n d' r' a p w =
      by_act (Stands (meant a)) a d r n d' r' p
      (λ i m e. subst (λ (x : Doing). Stands x (step_leaves (join_on d i m).0 (join_on d i m).1 r)) (sym e)
      (join_so r i m (subst (λ (x : Doing). DoingFits x) e w)))
      (λ _. outcome_so r (meant a) w)

pub step_in_form : StepInForm
step_in_form d x p o q w = call_so d o q (right_at d o q) x.room x.answer x.desk x.report x.act p w

pub holds_as : (s : List ℕ) (d e : Desk) → d ≡ e → Holds s d → Holds s e
holds_as s d e p h = record { octets = h.octets; in_form = h.in_form; stands = h.stands ∙ p }
