-- Each turn keeps what was noted and goes on towards the end; the way out tells how the walk ended. The decisions are the callees': the one
-- branch here asks whether a field was noted.
use mathlib.Core.Path.{◌≡◌, sym, ◌∙◌}
use Rattle.std.specs.Prelude.{Ok, Err}
use Rattle.field.specs.Fields.{step_at}
use Rattle.walk.proofs.Walks.{walking_starts, walking_by, nearer_by, answers_by}
use Rattle.walk.proofs.all_starts.Goals as goal

pub loop-r-init : goal.loop-r-init
loop-r-init c = record {
  rests = rw c.rest-r.ensures.0;
  walking = rw c.rest-r.ensures.1 (walking_starts c.args.s.now _ c.forget.ensures);
}

pub loop-r-smaller : goal.loop-r-smaller
loop-r-smaller c =
    let s = c.args.s.now in
    let e : step_at s c.loop-r.r.at ≡ c.next-step.result = sym (rw c.loop-r.invariant.rests at c.next-step.ensures) in
    rw c.moved-r.ensures.1
    (nearer_by s c.loop-r.starts c.loop-r.r.at c.next-step.result e (sym c.noted_field.ensures.0 ∙ c.if-not-noted_field.false))

pub loop-r-preserved : goal.loop-r-preserved
loop-r-preserved c =
    let s = c.args.s.now in
    let e : step_at s c.loop-r.r.at ≡ c.next-step.result = sym (rw c.loop-r.invariant.rests at c.next-step.ensures) in
    record {
      rests = rw c.moved-r.ensures.0 c.loop-r.invariant.rests;
      walking =
          rw (c.moved-r.ensures.1, c.noted_field.ensures.1)
          (walking_by s c.loop-r.starts c.loop-r.r.at c.next-step.result e
          (sym c.noted_field.ensures.0 ∙ c.if-not-noted_field.false) c.loop-r.invariant.walking);
    }

pub returns-in_default : goal.returns-in_default
returns-in_default c =
    let s = c.args.s.now in
    let e : step_at s c.loop-r.r.at ≡ c.next-step.result = sym (rw c.loop-r.invariant.rests at c.next-step.ensures) in
    answers_by s c.loop-r.starts c.loop-r.r.at c.next-step.result c.noted_field.new.starts (Ok c.in_default.field-0) e
    (sym c.noted_field.ensures.0 ∙ c.if-not-noted_field.true) c.noted_field.ensures.1 (sym c.in_default.is ∙ c.ended.ensures)
    c.loop-r.invariant.walking

pub returns-then-not-noted_field : goal.returns-then-not-noted_field
returns-then-not-noted_field c =
    let s = c.args.s.now in
    let e : step_at s c.loop-r.r.at ≡ c.next-step.result = sym (rw c.loop-r.invariant.rests at c.next-step.ensures) in
    rw c.forget-then-not-noted_field.ensures
    (answers_by s c.loop-r.starts c.loop-r.r.at c.next-step.result c.noted_field.new.starts (Err c.in-Err.refusal) e
    (sym c.noted_field.ensures.0 ∙ c.if-not-noted_field.true) c.noted_field.ensures.1 (sym c.in-Err.is ∙ c.ended.ensures)
    c.loop-r.invariant.walking)
