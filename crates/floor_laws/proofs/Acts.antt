-- What an act promises is what comes of what it means to the desk: one case for a join, which has no report, and one for all else.
-- Assumes nothing.
use Prim.Native.Nat.{ℕ}
use mathlib.Core.Path.{◌≡◌, refl, sym, subst}
use mathlib.Core.List.{List}
use lib.IntN.{ℤ}
use Rattle.hall.specs.declared.Newcomer.{Newcomer}
use Rattle.history.specs.Doing.{joins, does}
use Rattle.desk_steps.specs.Steps.{Leaves, step_leaves, outcome_on, step_on}
use Rattle.desk_making.specs.Making.{newcomer, join_on}
use Rattle.floor_laws.specs.Kept.{desk_at, Act, floor_join, floor_leave, floor_start, floor_stop, floor_packet, floor_media, floor_timer}
use Rattle.floor_laws.specs.Kept.{PromisedBy, meant, done_by}

pub by_act : (P : Leaves → Type 0) (a : Act) (d r : List ℕ) (n : ℤ) (d' r' : List ℕ) → PromisedBy a d r n d' r' →
    ((o : List ℕ) (w : Newcomer) → meant a ≡ joins o w → P (step_leaves (join_on d o w).0 (join_on d o w).1 r)) →
    (done_by (desk_at d) (meant a) ≡ 0 → P (outcome_on d r (does (desk_at d) (meant a)))) → P (step_leaves n d' r')
unfolding does step_on
by_act P (floor_join o x h q l) d r n d' r' p j k =
    subst (λ (s : List ℕ). P (step_leaves n d' s)) (sym p.1)
    (subst (λ (z : ℤ × List ℕ). P (step_leaves z.0 z.1 r)) (sym p.0) (j o (newcomer x h q l) refl))
by_act P (floor_leave s) d r n d' r' p j k = subst P (sym p) (k refl)
by_act P floor_start d r n d' r' p j k = subst P (sym p) (k refl)
by_act P floor_stop d r n d' r' p j k = subst P (sym p) (k refl)
by_act P (floor_packet o) d r n d' r' p j k = subst P (sym p) (k refl)
by_act P (floor_media x) d r n d' r' p j k = subst P (sym p) (k refl)
by_act P (floor_timer t) d r n d' r' p j k = subst P (sym p) (k refl)
