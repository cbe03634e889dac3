-- Of the phases: in Stopped and Idle the floor is nobody's, in the others it is somebody's; T7 runs only in Idle; and who holds the floor
-- is the only one that does. Assumes nothing.
use Prim.Native.Nat.{ℕ}
use mathlib.Core.Path.{◌≡◌, refl, ap, ◌∙◌}
use mathlib.Core.Bool.{true, false}
use lib.Dec.{eqb}
use borrow.Author.Tests.{eqb-true, eq-eqb}
use Rattle.words.proofs.Tests.{clash}
use Rattle.line.specs.declared.Entry.{Entry}
use Rattle.steps.specs.declared.AlsoRuns.{AlsoRuns}
use Rattle.steps.specs.declared.AlsoRuns.TheVariants.{NoMore, T2, T20}
use Rattle.steps.specs.declared.Phase.{Phase}
use Rattle.steps.specs.declared.Phase.TheVariants.{Stopped, Idle, Taken, Revoking}
use Rattle.giving.specs.Floor.{holds}
use Rattle.request.specs.Request.{is_idle}
use Rattle.timers.specs.Timers.{is_stopped, running}
use Rattle.ways.specs.Ways.{is_busy}

pub stopped_quiet : (p : Phase) → is_stopped p ≡ true → is_busy p ≡ false
stopped_quiet Stopped q = refl
stopped_quiet (Idle t7) q = refl
stopped_quiet (Taken e b) q = clash q refl
stopped_quiet (Revoking e n) q = clash q refl

pub idle_quiet : (p : Phase) → is_idle p ≡ true → is_busy p ≡ false
idle_quiet Stopped q = refl
idle_quiet (Idle t7) q = refl
idle_quiet (Taken e b) q = clash q refl
idle_quiet (Revoking e n) q = clash q refl

pub busy_else : (p : Phase) → is_stopped p ≡ false → is_idle p ≡ false → is_busy p ≡ true
busy_else Stopped q i = clash refl q
busy_else (Idle t7) q i = clash refl i
busy_else (Taken e b) q i = refl
busy_else (Revoking e n) q i = refl

pub t7_idle : (p : Phase) → (running p).t7 ≡ true → is_idle p ≡ true
t7_idle Stopped q = q
t7_idle (Idle t7) q = refl
t7_idle (Taken e NoMore) q = q
t7_idle (Taken e T2) q = q
t7_idle (Taken e T20) q = q
t7_idle (Revoking e n) q = q

-- the holder in Taken and in Revoking holds the floor, and nobody else does
module _ {p : Phase} {e : Entry} where
  pub taken_held : {b : AlsoRuns} → p ≡ Taken e b → holds p e.seat ≡ true
  taken_held q = ap (λ (o : Phase). holds o e.seat) q ∙ eq-eqb e.seat e.seat refl

  pub revoking_held : {n : ℕ} → p ≡ Revoking e n → holds p e.seat ≡ true
  revoking_held q = ap (λ (o : Phase). holds o e.seat) q ∙ eq-eqb e.seat e.seat refl

pub holds-one : (p : Phase) (t s : ℕ) → holds p t ≡ true → holds p s ≡ eqb t s
holds-one Stopped t s h = clash h refl
holds-one (Idle t7) t s h = clash h refl
holds-one (Taken e b) t s h = ap (λ (x : ℕ). eqb x s) (eqb-true e.seat t h)
holds-one (Revoking e n) t s h = ap (λ (x : ℕ). eqb x s) (eqb-true e.seat t h)

-- in Idle nobody holds it
pub idle_none : (p : Phase) (s : ℕ) → is_idle p ≡ true → holds p s ≡ false
idle_none Stopped s h = refl
idle_none (Idle t7) s h = refl
idle_none (Taken e b) s h = clash h refl
idle_none (Revoking e n) s h = clash h refl
