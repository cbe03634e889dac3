-- A step in which the floor was given leaves somebody who holds it, and T1 running for it. Assumes nothing.
use Prim.Native.Nat.{ℕ}
use mathlib.Core.Bool.{true, false}
use mathlib.Core.Path.{◌≡◌, refl, ap, ◌∙◌}
use borrow.Author.Tests.{eq-eqb}
use Rattle.words.proofs.Tests.{clash}
use Rattle.steps.specs.declared.AlsoRuns.TheVariants as also
use Rattle.steps.specs.declared.Phase.{Phase}
use Rattle.steps.specs.declared.Phase.TheVariants.{Stopped, Idle, Taken, Revoking}
use Rattle.steps.specs.declared.Core.{Core}
use Rattle.steps.specs.declared.Marks.{Marks}
use Rattle.giving.specs.Floor.{holds}
use Rattle.std.proofs.Common.{Some}
use Rattle.timers.specs.Timers.{running}
use Rattle.timers.specs.declared.Timer.TheVariants.{T1}
use Rattle.events.specs.declared.Desk.{Desk}
use Rattle.history.specs.Doing.{Doing, does}
use Rattle.ways.proofs.Walk.{every_way}
use Rattle.marks.proofs.Did.{Did, rests, gives, places, shifts, strikes, passes, frees, halts, closes, did}
use Rattle.clocks_laws.specs.Clockwork.{someone_given, GivenStartsT1}
use Rattle.clocks_laws.proofs.Each.{runs_for_holder_lem}

-- T1 runs for who holds the floor
holds_t1 : (p : Phase) (s : ℕ) → holds p s ≡ true → (running p).t1 ≡ true
holds_t1 Stopped s h = h
holds_t1 (Idle t7) s h = h
holds_t1 (Taken e also.NoMore) s h = refl
holds_t1 (Taken e also.T2) s h = refl
holds_t1 (Taken e also.T20) s h = refl
holds_t1 (Revoking e n) s h = refl

module _ (d : Desk) (x : Doing) (new : Core) (m : Marks) (q : someone_given m.given ≡ true) where
  none : (n : Marks) → m ≡ n → someone_given n.given ≡ false → (running new.phase).t1 ≡ true
  none n e f = clash q (ap (λ (k : Marks). someone_given k.given) e ∙ f)

  given_t1 : Did d x new m → (running new.phase).t1 ≡ true
  given_t1 (rests u l f e) = none _ e refl
  given_t1 (gives t p a i l f e) = holds_t1 new.phase t (f t ∙ eq-eqb t t refl)
  given_t1 (places t p a w r l f e) = none _ e refl
  given_t1 (shifts t p y a w n l f e) = none _ e refl
  given_t1 (strikes t y a o w l f e) = none _ e refl
  given_t1 (passes t y es a h o w l f e) = holds_t1 new.phase y.seat (f y.seat ∙ eq-eqb y.seat y.seat refl)
  given_t1 (frees t a h w l f e) = none _ e refl
  given_t1 (halts t y h l f e) = none _ e refl
  given_t1 (closes y i l f e) = none _ e refl

pub given_starts_t1 : GivenStartsT1
given_starts_t1 d x fired f q =
    runs_for_holder_lem (running d.core.phase) (running (does d x).desk.core.phase) fired (Some T1) refl
    (given_t1 d x (does d x).desk.core (does d x).report.marks q (did d x (does d x) f (every_way d x)))
