-- "All refusals leave the desk unchanged, with no message and no mark. A Deny is a message and not a refusal; its answer is 0 (done) and
-- the desk is unchanged." (document 01, "The desk"): laws over everything that can happen to any desk. Each is proved in proofs/Refusals.
-- Assumes nothing.
use Rattle.std.specs.Prelude.{◌≡◌, Bool, true, false, ◌||◌, Ok}
use Rattle.steps.specs.declared.Kind.{Kind}
use Rattle.steps.specs.declared.Kind.TheVariants as say
use Rattle.steps.specs.Words.{silence, no_marks}
use Rattle.events.specs.declared.Desk.{Desk}
use Rattle.history.specs.Doing.{Doing, does, after}

pub record Unchanged (d : Desk) (x : Doing) : Type 0 where
  pub desk : after d x ≡ d
  pub first : (does d x).report.first ≡ silence
  pub second : (does d x).report.second ≡ silence
  pub marks : (does d x).report.marks ≡ no_marks

abbrev pub RefusalsChangeNothing : Type 0
RefusalsChangeNothing = (d : Desk) (x : Doing) → ((does d x).answer ≡ Ok tt → ⊥) → Unchanged d x

abbrev pub is_deny : Kind → Bool
is_deny say.Nothing = false
is_deny (say.Granted p) = false
is_deny (say.Taken s n) = false
is_deny (say.Deny n) = true
is_deny (say.Idle n) = false
is_deny (say.Revoke n) = false
is_deny (say.Info k p) = false

-- it is the one message of its step
pub record Denied (d : Desk) (x : Doing) : Type 0 where
  pub answer : (does d x).answer ≡ Ok tt
  pub desk : after d x ≡ d
  pub second : (does d x).report.second ≡ silence
  pub marks : (does d x).report.marks ≡ no_marks

abbrev pub DenyChangesNothing : Type 0
DenyChangesNothing = (d : Desk) (x : Doing) →
    (is_deny (does d x).report.first.kind || is_deny (does d x).report.second.kind) ≡ true → Denied d x
