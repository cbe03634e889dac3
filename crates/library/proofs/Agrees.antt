-- What the octets that a call leaves for its report say is what the rules report of what was done. Assumes nothing.
use Prim.Native.Nat.{ℕ}
use mathlib.Core.Path.{◌≡◌, refl, ap, sym, subst, ◌∙◌}
use mathlib.Core.Bool.{true}
use mathlib.Core.List.{List, [], ◌∷◌}
use lib.Dec.{eqb, leb}
use lib.IntN.{ℤ}
use lib.ListN.{length, take}
use Rattle.words.proofs.Tests.{clash}
use Rattle.signed.specs.Signed.{is_done, Succeeds}
use Rattle.signed.proofs.Signed.{not_done}
use Rattle.words.specs.Choice.{by_if}
use Rattle.octets.specs.Octets.{over, Octets}
use Rattle.hall.specs.Answers.{answer_number}
use Rattle.steps.specs.declared.Report.{Report}
use Rattle.events.specs.declared.Desk.{Desk}
use Rattle.events.specs.declared.Outcome.{Outcome}
use Rattle.history.specs.Doing.{Doing, does}
use Rattle.report_octets.specs.Places.{report_size}
use Rattle.report_octets.specs.Report.{octets_of_report}
use Rattle.report_octets_laws.specs.Reported.{report_in}
use Rattle.report_octets_laws.proofs.Reported.{says_the_report, twenty_four}
use Rattle.desk_test.specs.Lent.{formed}
use Rattle.desk_steps.specs.Steps.{Leaves, step_leaves, settles, outcome_on, step_on}
use Rattle.floor_laws.specs.Kept.{desk_at, Act, floor_join, floor_leave, floor_start, floor_stop, floor_packet, floor_media, floor_timer}
use Rattle.floor_laws.specs.Kept.{Call}
use Rattle.floor_laws.specs.Kept.{Promised, PromisedBy, DoingFits, meant, doings}
use Rattle.floor_laws.proofs.Shape.{step_fits}
use Rattle.floor_laws.proofs.Made.{first_over}
use Rattle.library.specs.Library.{report_by}

-- for each thing that was done
abbrev pub Agrees : Desk → Report → List Doing → Type 0
Agrees d r [] = Unit {0}
Agrees d r (y ∷ ys) = (r ≡ (does d y).report) × Agrees d r ys

module _ (d : List ℕ) (r : List ℕ) where
  -- a step that was done has its report in the room
  abbrev Reported : Outcome → Leaves → Type 0
  Reported p l = Succeeds l.answer → take report_size l.report ≡ octets_of_report p.report

  settled : (p : Outcome) → Reported p (outcome_on d r p)
  unfolding outcome_on settles
  settled p =
      let n = answer_number p.answer in
      let s = octets_of_report p.report in
      by_if (Reported p) (formed d)
      (λ _. by_if (Reported p) (eqb n 0)
      (λ e. by_if (Reported p) (leb report_size (length r))
      (λ _ _. ap (λ (m : ℕ). take m (over r 0 s)) (sym (twenty_four p.report)) ∙ first_over r s)
      (λ _ z. clash z refl))
      (λ e z. clash z (not_done n e)))
      (λ _ z. clash z refl)

  module _ (o : Octets d) (q : formed d ≡ true) (n : ℤ) (d' r' : List ℕ) (z : Succeeds n) where
    says : (y : Doing) → DoingFits y → step_leaves n d' r' ≡ outcome_on d r (does (desk_at d) y) →
        report_in (take report_size r') ≡ (does (desk_at d) y).report
    says y w p =
        let e = subst (λ (l : Leaves). Reported (does (desk_at d) y) l) (sym p) (settled (does (desk_at d) y)) z in
        rw e (says_the_report (does (desk_at d) y).report (step_fits d o q y w))

    agrees_by : (a : Act) → PromisedBy a d r n d' r' → report_by a (take report_size r') ≡ (does (desk_at d) (meant a)).report
    unfolding does step_on
    agrees_by (floor_join i x h w l) p = refl
    agrees_by (floor_leave s) p = says (meant (floor_leave s)) tt p
    agrees_by floor_start p = says (meant floor_start) tt p
    agrees_by floor_stop p = says (meant floor_stop) tt p
    agrees_by (floor_packet i) p = says (meant (floor_packet i)) tt p
    agrees_by (floor_media x) p = says (meant (floor_media x)) tt p
    agrees_by (floor_timer t) p = says (meant (floor_timer t)) tt p

pub agrees : (d : List ℕ) → Octets d → formed d ≡ true → (x : Call) → Promised d x →
    Agrees (desk_at d) (report_by x.act (take report_size x.report)) (doings x)
agrees d o q x p =
    by_if (Agrees (desk_at d) (report_by x.act (take report_size x.report))) (is_done x.answer)
    (λ e. (agrees_by d x.room o q x.answer x.desk x.report e x.act p, tt)) (λ _. tt)
