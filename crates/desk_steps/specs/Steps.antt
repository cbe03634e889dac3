-- Steps on the desk in lent octets (document 01, "The desk": "For C programs the desk rests in lent octets, their form fixed in docs/.
-- Octets not in that form get 20, before all else"): each is its rule between decoding and encoding, what it answers, and what it leaves in
-- every lent buffer. The order of the tests: 20; then the paper's refusals; then 13. A refusal leaves all as it was. Assumes nothing.
use Rattle.std.specs.Prelude.{ℕ, ◌≡◌, true, false, List, eqb, leb, ltb, ℤ, length, Option}
use Rattle.words.specs.Choice.{when◌then◌else◌}
use Rattle.octets.specs.Octets.{over}
use Rattle.message.specs.Answers.{refused, result}
use Rattle.signed.specs.Signed.{signed}
use Rattle.hall.specs.Answers.{answer_number}
use Rattle.steps.specs.declared.Step.{Step}
use Rattle.timers.specs.declared.Timer.{Timer}
use Rattle.events.specs.declared.Outcome.{Outcome}
use Rattle.events.specs.Events.{whole_desk, outcome, step, leave}
use Rattle.packet_events.specs.PacketEvents.{hears}
use Rattle.events.specs.declared.Event.{Event}
use Rattle.events.specs.declared.Event.TheVariants.{Expiry}
use Rattle.desk_octets.specs.Form.{octets_of_desk, core_at, hall_at, names_at}
use Rattle.report_octets.specs.Report.{octets_of_report}
use Rattle.desk_test.specs.Lent.{formed}
use Rattle.report_octets.specs.Places.{report_size}

-- what a step leaves: its answer, the desk's octets, the report's
pub record Leaves : Type 0 where
  pub answer : ℤ
  pub desk : List ℕ
  pub report : List ℕ

abbrev pub step_leaves : ℤ → List ℕ → List ℕ → Leaves
step_leaves n d r = record { answer = n; desk = d; report = r }

abbrev pub refusal : ℕ → List ℕ → List ℕ → Leaves
refusal n d r = step_leaves (signed (refused n)) d r

abbrev pub finished : List ℕ → List ℕ → Leaves
finished d r = step_leaves (signed (result 0)) d r

-- a step to which the rules answer n, with the desk and the report it would write
unfoldable pub settles : List ℕ → List ℕ → ℕ → List ℕ → List ℕ → Leaves
settles d r n desk report =
    when formed d
    then (when eqb n 0 then (when leb report_size (length r) then finished desk (over r 0 report) else refusal 13 d r) else refusal n d r)
    else refusal 20 d r

-- what happens comes to an outcome: the whole desk afterwards, and the report
unfoldable pub outcome_on : List ℕ → List ℕ → Outcome → Leaves
outcome_on d r o =
    settles d r (answer_number o.answer) (octets_of_desk o.desk.core o.desk.hall o.desk.names) (octets_of_report o.report)

-- an event changes the core alone: seats, settings and identities are those that stood there
unfoldable pub step_on : List ℕ → List ℕ → Step → Leaves
step_on d r s = outcome_on d r (outcome s (hall_at d) (names_at d))

-- octets on which a step is made: where they are a desk it is one that may be made, else the answer is 20
abbrev pub SteppedAt : List ℕ → List ℕ → (Step → Type 0) → ℤ → List ℕ → List ℕ → Type 0
SteppedAt d r may n d' r' = formed d ≡ true → (s : Step) × may s × (step_leaves n d' r' ≡ step_on d r s)

abbrev pub NoneStepped : List ℕ → List ℕ → ℤ → List ℕ → List ℕ → Type 0
NoneStepped d r n d' r' = formed d ≡ false → step_leaves n d' r' ≡ refusal 20 d r

-- start, stop, media, a timer
abbrev pub event_on : List ℕ → List ℕ → Event → Leaves
event_on d r e = step_on d r (step (core_at d) (hall_at d) e)

abbrev pub fired_on : List ℕ → List ℕ → Option Timer → Leaves
fired_on d r t = event_on d r (Expiry t)

abbrev pub packet_on : List ℕ → List ℕ → List ℕ → Leaves
packet_on d r p = step_on d r (hears (core_at d) (hall_at d) p)

-- every number that no seat has is one such number
unfoldable pub seat_numbered : ℕ → ℕ
seat_numbered n = when ltb n 16 then n else 16

abbrev pub leave_on : List ℕ → List ℕ → ℕ → Leaves
leave_on d r seat = outcome_on d r (leave (whole_desk (core_at d) (hall_at d) (names_at d)) seat)
