-- The words that the rules of document 01, "The desk", are written with: a core with one thing changed, and what a step reports.
-- Assumes nothing.
use Rattle.std.specs.Prelude.{ℕ, ◌+◌, ◌%◌, Bool, true, false, List, Option, Some, None, Ok, Err, replicate}
use Rattle.line.specs.declared.Line.{Line}
use Rattle.hall.specs.declared.Refusal.{Refusal}
use Rattle.hall.specs.Answers.{DeskAnswer}
use Rattle.steps.specs.declared.Phase.{Phase}
use Rattle.steps.specs.declared.Core.{Core}
use Rattle.steps.specs.declared.Kind.{Kind}
use Rattle.steps.specs.declared.Kind.TheVariants as say
use Rattle.steps.specs.declared.Sending.{Sending}
use Rattle.steps.specs.declared.Given.{Given}
use Rattle.steps.specs.declared.Given.TheVariants.{NotGiven}
use Rattle.steps.specs.declared.Marks.{Marks}
use Rattle.steps.specs.declared.Report.{Report}
use Rattle.steps.specs.declared.Step.{Step}

infixl 30 ◌in_phase◌ ◌with_line◌ ◌counting_c7◌ ◌counting_c20◌
infixl 20 ◌turns◌ ◌sends◌ ◌placing◌ ◌marks_placed◌ ◌marks_struck◌ ◌marks_ended◌ ◌marks_given◌
infix 40 ◌⇒◌
-- the core with one thing changed
abbrev pub ◌in_phase◌ : Core → Phase → Core
c in_phase p = record { phase = p; line = c.line; sequence = c.sequence; c7 = c.c7; c20 = c.c20 }

abbrev pub ◌with_line◌ : Core → Line → Core
c with_line l = record { phase = c.phase; line = l; sequence = c.sequence; c7 = c.c7; c20 = c.c20 }

abbrev pub ◌counting_c7◌ : Core → ℕ → Core
c counting_c7 n = record { phase = c.phase; line = c.line; sequence = c.sequence; c7 = n; c20 = c.c20 }

abbrev pub ◌counting_c20◌ : Core → ℕ → Core
c counting_c20 n = record { phase = c.phase; line = c.line; sequence = c.sequence; c7 = c.c7; c20 = n }

-- the sequence number after one more message, of 16 bits
unfoldable pub next : ℕ → ℕ
next n = (n + 1) % 65536

abbrev pub numbered : Core → Core
numbered c = record { phase = c.phase; line = c.line; sequence = next c.sequence; c7 = c.c7; c20 = c.c20 }

-- a message to a set of seats; the silence that stands where there is no message
abbrev pub ◌⇒◌ : Kind → List Bool → Sending
k ⇒ seats = record { kind = k; to = seats }

abbrev pub silence : Sending
silence = say.Nothing ⇒ replicate 16 false

abbrev pub is_nothing : Kind → Bool
is_nothing say.Nothing = true
is_nothing (say.Granted p) = false
is_nothing (say.Taken s n) = false
is_nothing (say.Deny n) = false
is_nothing (say.Idle n) = false
is_nothing (say.Revoke n) = false
is_nothing (say.Info k p) = false

-- a report with these messages, in which nobody is struck off and nobody's floor ends; one with no message and no mark
abbrev pub report_of : Sending → Sending → Option ℕ → Given → Report
report_of first second p g =
    record { first = first; second = second; marks = record { placed = p; struck = replicate 16 false; ended = None; given = g } }

abbrev pub no_marks : Marks
no_marks = record { placed = None; struck = replicate 16 false; ended = None; given = NotGiven }

abbrev pub empty_report : Report
empty_report = record { first = silence; second = silence; marks = no_marks }

-- a step that leaves this core, with no message and no mark
abbrev pub answered : Core → DeskAnswer → Step
answered c a = record { answer = a; core = c; report = empty_report }

abbrev pub done : Core → Step
done c = answered c (Ok tt)

-- a refusal leaves the core as it is, with no message and no mark
abbrev pub refused : Core → Refusal → Step
refused c r = answered c (Err r)

-- the step, in another phase in the end
abbrev pub ◌turns◌ : Step → Phase → Step
r turns p = record { answer = r.answer; core = r.core in_phase p; report = r.report }

-- the step with one message more, behind the one that it has
abbrev pub more : Bool → Report → Sending → Report
more true r m = record { first = m; second = r.second; marks = r.marks }
more false r m = record { first = r.first; second = m; marks = r.marks }

abbrev pub ◌sends◌ : Step → Sending → Step
r sends m = record { answer = r.answer; core = r.core; report = more (is_nothing r.report.first.kind) r.report m }

-- the step with a mark
abbrev pub marked : Step → Marks → Step
marked r m =
    record { answer = r.answer; core = r.core; report = record { first = r.report.first; second = r.report.second; marks = m } }

abbrev pub ◌placing◌ : Step → Option ℕ → Step
r placing m = let o = r.report.marks in marked r (record { placed = m; struck = o.struck; ended = o.ended; given = o.given })

abbrev pub ◌marks_placed◌ : Step → ℕ → Step
r marks_placed s = r placing Some s

abbrev pub ◌marks_struck◌ : Step → List Bool → Step
r marks_struck seats =
    let o = r.report.marks in marked r (record { placed = o.placed; struck = seats; ended = o.ended; given = o.given })

abbrev pub ◌marks_ended◌ : Step → ℕ → Step
r marks_ended s = let o = r.report.marks in marked r (record { placed = o.placed; struck = o.struck; ended = Some s; given = o.given })

abbrev pub ◌marks_given◌ : Step → Given → Step
r marks_given g = let o = r.report.marks in marked r (record { placed = o.placed; struck = o.struck; ended = o.ended; given = g })
