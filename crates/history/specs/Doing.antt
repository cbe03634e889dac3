-- Anything that happens to a desk, and what it comes to (document 01, "The desk"). Assumes nothing.
use Rattle.std.specs.Prelude.{ℕ, ◌≡◌, true, List, [], ◌∷◌}
use Rattle.hall.specs.declared.Newcomer.{Newcomer}
use Rattle.joining.specs.declared.Joined.{Joined}
use Rattle.hall.specs.declared.Settings.{Settings}
use Rattle.hall.specs.Seats.{in_range, empty_hall}
use Rattle.identities.specs.Identity.{no_names}
use Rattle.joining.specs.Join.{join}
use Rattle.steps.specs.declared.Core.{Core}
use Rattle.steps.specs.Words.{answered}
use Rattle.events.specs.declared.Event.{Event}
use Rattle.events.specs.declared.Desk.{Desk}
use Rattle.events.specs.declared.Outcome.{Outcome}
use Rattle.events.specs.Events.{whole_desk, outcome, fresh, step, leave}
use Rattle.packet_events.specs.PacketEvents.{hears}

-- what happens to a desk: an event, the octets of a packet, a seat's leave, or a join, with its identity
pub data Doing : Type 0 where
  event : Event → Doing
  packet : List ℕ → Doing
  leaves : ℕ → Doing
  joins : List ℕ → Newcomer → Doing

-- a desk that was just made
abbrev pub made : Settings → Desk
made s = whole_desk fresh (empty_hall s) no_names

-- join reports its answer, and has no message and no mark
abbrev pub joined : Core → Joined → Outcome
joined c j = outcome (answered c j.answer) j.hall j.names

-- the answer, the whole desk afterwards, and the whole report
unfoldable pub does : Desk → Doing → Outcome
does d (event e) = outcome (step d.core d.hall e) d.hall d.names
does d (packet octets) = outcome (hears d.core d.hall octets) d.hall d.names
does d (leaves s) = leave d s
does d (joins o n) = joined d.core (join d.hall d.names o n)

abbrev pub after : Desk → Doing → Desk
after d x = (does d x).desk

-- a run of events: the desk in the end, and each step on the way
abbrev pub after_all : Desk → List Doing → Desk
after_all d [] = d
after_all d (x ∷ xs) = after_all (after d x) xs

abbrev pub steps_of : Desk → List Doing → List Outcome
steps_of d [] = []
steps_of d (x ∷ xs) = does d x ∷ steps_of (after d x) xs

-- "A fresh desk is Stopped, with sequence number 0"; "A loaded desk is fresh, with its seats numbered from 0 in sheet order": nothing has
-- happened to its core, and its seats are as joining makes them, from the empty hall of a desk just made.
pub data Fresh : Desk → Type 0 where
  just_made : (g : Settings) → in_range g ≡ true → Fresh (made g)
  and_joined : (d : Desk) (o : List ℕ) (n : Newcomer) → Fresh d → Fresh (after d (joins o n))
