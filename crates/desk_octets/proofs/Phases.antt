-- The phase and its octets, both ways. Assumes nothing.
use Prim.Native.Nat.{ℕ}
use native.Mathlib.Omega.{arith}
use mathlib.Core.Path.{◌≡◌, refl, ap}
use mathlib.Core.Bool.{true}
use lib.Dec.{leb}
use Rattle.std.proofs.lemmas.Bool.Decides.{nat_tests}
use Rattle.words.specs.Choice.{when◌then◌else◌}
use Rattle.line.specs.declared.Entry.{Entry}
use Rattle.steps.specs.declared.AlsoRuns.{AlsoRuns}
use Rattle.steps.specs.declared.AlsoRuns.TheVariants.{NoMore, T2, T20}
use Rattle.steps.specs.declared.Phase.{Phase}
use Rattle.steps.specs.declared.Phase.TheVariants.{Stopped, Idle, Taken, Revoking}
use Rattle.desk_octets.specs.Form.{kind_octet, timers_octet, also_octet, holder_in, cause_in, phase_of, also_of, phase_fits}
use Rattle.desk_octets.proofs.Flags.{flag_back, flag_fits, flag_forth}

also_back : (b : AlsoRuns) → also_of (also_octet b) ≡ b
unfolding also_of when◌then◌else◌
also_back NoMore = refl
also_back T2 = refl
also_back T20 = refl

also_fits : (b : AlsoRuns) → leb (also_octet b) 2 ≡ true
also_fits NoMore = refl
also_fits T2 = refl
also_fits T20 = refl

pub phase_back : (p : Phase) → phase_of (kind_octet p) (timers_octet p) (holder_in p) (cause_in p) ≡ p
unfolding phase_of when◌then◌else◌
phase_back Stopped = refl
phase_back (Idle b) = ap Idle (flag_back b)
phase_back (Taken e b) = ap (Taken e) (also_back b)
phase_back (Revoking e n) = refl

pub phase_fits_lem : (p : Phase) → phase_fits (kind_octet p) (timers_octet p) (holder_in p) (cause_in p) ≡ true
unfolding phase_fits when◌then◌else◌
phase_fits_lem Stopped = refl
phase_fits_lem (Idle b) = rw (flag_fits b)
phase_fits_lem (Taken e b) = rw (also_fits b)
phase_fits_lem (Revoking e n) = refl

also_forth : (n : ℕ) → leb n 2 ≡ true → also_octet (also_of n) ≡ n
unfolding also_of when◌then◌else◌
also_forth n h = grind (arith, nat_tests)

-- what a phase's octets are, once they fit
pub record Octets4 (kind timers : ℕ) (holder : Entry) (cause : ℕ) (p : Phase) : Type 0 where
  pub kinds : kind_octet p ≡ kind
  pub timed : timers_octet p ≡ timers
  pub seats : (holder_in p).seat ≡ holder.seat
  pub priorities : (holder_in p).priority ≡ holder.priority
  pub causes : cause_in p ≡ cause

pub phase_forth : (kind timers : ℕ) (holder : Entry) (cause : ℕ) → phase_fits kind timers holder cause ≡ true →
    Octets4 kind timers holder cause (phase_of kind timers holder cause)
unfolding phase_of phase_fits when◌then◌else◌
phase_forth k t e n h =
    record {
      kinds = grind (arith, nat_tests);
      timed = grind (arith, nat_tests, flag_forth, also_forth);
      seats = grind (arith, nat_tests);
      priorities = grind (arith, nat_tests);
      causes = grind (arith, nat_tests);
    }
