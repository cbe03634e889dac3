-- Rules 4 to 6 by one way for who waits and who comes. Assumes nothing.
use Prim.Native.Nat.{ℕ}
use mathlib.Core.Path.{◌≡◌, refl, ap, sym, ◌∙◌}
use mathlib.Core.Bool.{Bool, true, false}
use Rattle.words.specs.Choice.{when◌then◌else◌, by_test}
use Rattle.line.specs.declared.Entry.{Entry}
use Rattle.line.specs.Line.{waiting, before, priority_of}
use Rattle.hall.specs.declared.Hall.{Hall}
use Rattle.hall.specs.Answers.{DeskAnswer}
use Rattle.hall.specs.Seats.{queues}
use Rattle.steps.specs.declared.Phase.{Phase}
use Rattle.steps.specs.declared.Phase.TheVariants.{Stopped, Idle, Taken, Revoking}
use Rattle.steps.specs.declared.Core.{Core}
use Rattle.steps.specs.declared.Sending.{Sending}
use Rattle.std.specs.Prelude.{Option, None, Ok}
use Rattle.steps.specs.declared.Given.TheVariants.{NotGiven}
use Rattle.steps.specs.declared.Report.{Report}
use Rattle.steps.specs.declared.Step.{Step}
use Rattle.steps.specs.Words.{◌with_line◌, is_nothing, more, silence, report_of, ◌placing◌}
use Rattle.steps.specs.Causes.{media_burst_preempted}
use Rattle.giving.specs.Floor.{revokes}
use Rattle.request.specs.Request.{waits, priority_in, full, presses, denied, info_of, holder_asks, informed, pressed, rule6, asks_again}
use Rattle.request.specs.Request.{placed, request}
use Rattle.request.specs.Cut.{info_for, line_after, mark_after, stands}

-- what the search looks into at each of the functions
unfoldable pub asking : Type 0
unfolding when◌then◌else◌ waits priority_in priority_of full presses denied info_of holder_asks informed pressed rule6 request before
    waiting
asking = ℕ

-- the mark of who was placed does not change what a step says, and rule 6 sets none by itself
module _ (a : DeskAnswer) (k : Core) (x : Option ℕ) where
  placed-more : (b : Bool) (r : Report) (m : Sending) →
      (record { answer = a; core = k; report = more b r m } placing x)
      ≡ record { answer = a; core = k; report = more b (record { answer = a; core = k; report = r } placing x).report m }
  placed-more true r m = refl
  placed-more false r m = refl

module _ (r : Step) (x : Option ℕ) where
  revoked_placing : (e : Entry) (n : ℕ) → revokes (r placing x) e n ≡ (revokes r e n placing x)
  unfolding revokes
  revoked_placing e n = sym (placed-more r.answer _ x (is_nothing r.report.first.kind) r.report _)

  pub pressed_placing : (p : Phase) (press : Bool) → pressed (r placing x) p press ≡ (pressed r p press placing x)
  unfolding pressed when◌then◌else◌
  pressed_placing Stopped press = refl
  pressed_placing (Idle t7) press = refl
  pressed_placing (Taken e b) true = revoked_placing e media_burst_preempted
  pressed_placing (Taken e b) false = refl
  pressed_placing (Revoking e n) press = refl

module _ (c : Core) (h : Hall) (s : ℕ) where
  pub informed_placing : (x : Option ℕ) →
      (informed c h s placing x)
      ≡ record { answer = Ok tt; core = c; report = report_of (info_for c.line s (queues h s)) silence x NotGiven }
  unfolding informed when◌then◌else◌
  informed_placing x = by_test (queues h s) (λ q. rw q) (λ q. rw q)

  unplaced : (informed c h s placing None) ≡ informed c h s
  unfolding informed when◌then◌else◌
  unplaced = by_test (queues h s) (λ q. rw q) (λ q. rw q)

  rule6-alone : (press : Bool) → (rule6 c h s press placing None) ≡ rule6 c h s press
  unfolding rule6
  rule6-alone press =
      sym (pressed_placing (informed c h s) None c.phase press) ∙ ap (λ (r : Step). pressed r c.phase press) unplaced

-- who waits and who comes, by rule 6 in one way
pub stands_alike : (c : Core) (h : Hall) (s p : ℕ) (press w : Bool) →
    (rule6 (c with_line line_after c.line w s p) h s press placing mark_after w s) ≡ stands c h s p press w
unfolding asks_again placed when◌then◌else◌
stands_alike c h s p press false = refl
stands_alike c h s p press true = rule6-alone (c with_line line_after c.line true s p) h s press
