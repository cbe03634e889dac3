-- Request, rules 1 to 6 of document 01, "The desk", in its order. The call is running and the seat is known; `p` is the effective priority.
-- Assumes nothing.
use Rattle.std.specs.Prelude.{ℕ, ◌+◌, Bool, true, false, not, ◌&&◌, leb, eqb, length}
use Rattle.words.specs.Choice.{when◌then◌else◌}
use Rattle.line.specs.declared.Entry.{Entry}
use Rattle.line.specs.declared.Line.{Line}
use Rattle.line.specs.Line.{waiting, line_of, before, is_in, entry_of, enter, another_at_least, without, priority_of}
use Rattle.hall.specs.declared.Hall.{Hall}
use Rattle.hall.specs.declared.Refusal.TheVariants.{NotExpected}
use Rattle.hall.specs.Seats.{only, alone, queues, receives_only}
use Rattle.steps.specs.declared.Phase.{Phase}
use Rattle.steps.specs.declared.Phase.TheVariants.{Stopped, Idle, Taken, Revoking}
use Rattle.steps.specs.declared.Core.{Core}
use Rattle.steps.specs.declared.Kind.{Kind}
use Rattle.steps.specs.declared.Kind.TheVariants as say
use Rattle.steps.specs.declared.Step.{Step}
use Rattle.steps.specs.Words.{◌with_line◌, ◌⇒◌, done, refused, ◌sends◌, ◌marks_placed◌}
use Rattle.steps.specs.Causes.{another_has_permission, only_one_participant, receive_only, queue_full, media_burst_preempted}
use Rattle.giving.specs.Floor.{holds, given_at_once, revokes, granted_again}

-- Deny: a message to the asker, and nothing changes
unfoldable pub denied : Core → ℕ → ℕ → Step
denied c s cause = done c sends say.Deny cause ⇒ only s

-- 1. A holder that asks again is granted what it has, at the priority it has it at, and nothing is given anew; in Revoking it is refused,
-- 23.
unfoldable pub holder_asks : Core → Phase → Step
holder_asks c (Taken e b) = granted_again c e
holder_asks c (Revoking e n) = refused c NotExpected
holder_asks c (Idle t7) = refused c NotExpected
holder_asks c Stopped = refused c NotExpected

-- 2. Who is receive only is denied, #5: in `request`, below.

-- 3. In Idle the floor is given at once; to one who is alone it is denied, #3.
abbrev pub is_idle : Phase → Bool
is_idle Stopped = false
is_idle (Idle t7) = true
is_idle (Taken e b) = false
is_idle (Revoking e n) = false

abbrev pub idle_request : Core → Hall → ℕ → ℕ → Step
idle_request c h s p = when alone h s then denied c s only_one_participant else given_at_once c h (entry_of s p)

-- 4. Who waits and asks at another priority is taken out and goes in again, behind its new equals; at the same priority it stays where it
-- is.
unfoldable pub waits : Core → ℕ → Bool
waits c s = is_in s (waiting c.line)

unfoldable pub priority_in : Line → ℕ → ℕ
priority_in l s = priority_of s (waiting l)

abbrev pub moved : Line → Entry → Line
moved l e = line_of (enter e (without (only e.seat) (waiting l)))

abbrev pub stays_or_moves : Line → ℕ → ℕ → Line
stays_or_moves l s p = when eqb (priority_in l s) p then l else moved l (entry_of s p)

-- 5. A request presses if it reaches the pre-emptive level, and no one else does: not the holder, and no other seat in line.
abbrev pub holder_at_least : ℕ → Phase → Bool
holder_at_least level Stopped = false
holder_at_least level (Idle t7) = false
holder_at_least level (Taken e b) = leb level e.priority
holder_at_least level (Revoking e n) = leb level e.priority

unfoldable pub presses : Core → Hall → ℕ → ℕ → Bool
presses c h s p =
    leb h.settings.level p
    && not (holder_at_least h.settings.level c.phase)
    && not (another_at_least s h.settings.level (waiting c.line))

-- A newcomer must press or have negotiated queueing, and then there must be room: in `rule5`, below. It goes into the line.
unfoldable pub full : Core → Hall → Bool
full c h = leb h.settings.limit (length (waiting c.line))

abbrev pub comes_in : Line → Entry → Line
comes_in l e = line_of (enter e (waiting l))

-- 6. Info tells the asker its place, if it negotiated queueing: 1 is the head, with its priority; 255 and 0 for a seat not in line. A press
-- then takes the floor from a holder in Taken, by Revoke #4.
unfoldable pub info_of : Line → ℕ → Kind
info_of l s = when is_in s (waiting l) then say.Info (before s (waiting l) + 1) (priority_in l s) else say.Info 255 0

unfoldable pub informed : Core → Hall → ℕ → Step
informed c h s = when queues h s then done c sends info_of c.line s ⇒ only s else done c

unfoldable pub pressed : Step → Phase → Bool → Step
pressed r (Taken e b) press = when press then revokes r e media_burst_preempted else r
pressed r (Revoking e n) press = r
pressed r (Idle t7) press = r
pressed r Stopped press = r

unfoldable pub rule6 : Core → Hall → ℕ → Bool → Step
rule6 c h s press = pressed (informed c h s) c.phase press

-- So 6 follows 4, and 5 once the newcomer is placed, which it is marked for; one that is not placed is denied, first #1, then #7.
unfoldable pub asks_again : Core → Hall → ℕ → ℕ → Bool → Step
asks_again c h s p press = rule6 (c with_line stays_or_moves c.line s p) h s press

unfoldable pub placed : Core → Hall → ℕ → ℕ → Bool → Step
placed c h s p press = rule6 (c with_line comes_in c.line (entry_of s p)) h s press marks_placed s

abbrev pub rule5 : Core → Hall → ℕ → ℕ → Bool → Step
rule5 c h s p press =
    when not press && not (queues h s) then denied c s another_has_permission
    else when full c h then denied c s queue_full
    else placed c h s p press

unfoldable pub request : Core → Hall → ℕ → ℕ → Step
request c h s p =
    when holds c.phase s then holder_asks c c.phase  -- 1
    else when receives_only h s then denied c s receive_only  -- 2
    else when is_idle c.phase then idle_request c h s p  -- 3
    else when waits c s then asks_again c h s p (presses c h s p)  -- 4, 6
    else rule5 c h s p (presses c h s p)  -- 5, 6
