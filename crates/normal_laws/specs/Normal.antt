-- The normal level (document 02, #101) beside document 01, which took no Floor Priority field for 0. Each statement here is proved in
-- proofs/Normal. Assumes nothing.
use Rattle.std.specs.Prelude.{ℕ, List, [], ◌∷◌, ◌≡◌, get_or, Option, Some, None}
use Rattle.message.specs.Answers.{Answer, refused, result}
use Rattle.message.specs.declared.Message.{Message}
use Rattle.reading.specs.Reading.{reading}
use Rattle.hall.specs.declared.Hall.{Hall}
use Rattle.hall.specs.Seats.{lower}
use Rattle.steps.specs.declared.Core.{Core}
use Rattle.steps.specs.declared.Step.{Step}
use Rattle.request.specs.Request.{request}
use Rattle.events.specs.declared.Event.{Event}
use Rattle.events.specs.declared.Event.TheVariants.{Start, Stop, Expiry, Request, Release, Position, Media, Other}
use Rattle.events.specs.declared.Desk.{Desk}
use Rattle.events.specs.declared.Outcome.{Outcome}
use Rattle.events.specs.Events.{outcome, caller_of, heard, step}
use Rattle.packet_events.specs.PacketEvents.{event_of, by_reading}
use Rattle.history.specs.Doing.{Doing, event, packet, leaves, joins, does, after, steps_of}

-- THE DESK OF DOCUMENT 01
-- "The effective priority is the lower of the one asked and the seat's highest. No Floor Priority field counts as 0."
abbrev pub asked01 : Option ℕ → ℕ
asked01 (Some p) = p
asked01 None = 0

abbrev pub effective01 : Hall → ℕ → Option ℕ → ℕ
effective01 h s a = lower (asked01 a) (get_or h.highest s 0)

-- its steps: a request by that priority; no other event asks for one
abbrev pub step01 : Core → Hall → Event → Step
step01 c h (Request x a) = heard c (caller_of c h x) (λ s. request c h s (effective01 h s a))
step01 c h Start = step c h Start
step01 c h Stop = step c h Stop
step01 c h (Expiry t) = step c h (Expiry t)
step01 c h (Release x) = step c h (Release x)
step01 c h (Position x) = step c h (Position x)
step01 c h (Media x) = step c h (Media x)
step01 c h (Other x) = step c h (Other x)

abbrev pub by_reading01 : Core → Hall → Answer Message → Step
by_reading01 c h (refused n) = by_reading c h (refused n)
by_reading01 c h (result m) = step01 c h (event_of m)

-- anything that happens to it, and any run of that
abbrev pub does01 : Desk → Doing → Outcome
does01 d (event e) = outcome (step01 d.core d.hall e) d.hall d.names
does01 d (packet octets) = outcome (by_reading01 d.core d.hall (reading octets)) d.hall d.names
does01 d (leaves s) = does d (leaves s)
does01 d (joins o n) = does d (joins o n)

abbrev pub steps_of01 : Desk → List Doing → List Outcome
steps_of01 d [] = []
steps_of01 d (x ∷ xs) = does01 d x ∷ steps_of01 (does01 d x).desk xs

-- "WITH LEVEL 0 NOTHING DIFFERS": each step of any run is document 01's, its answer, the whole desk that it leaves, and its report
abbrev pub NothingDiffers : Type 0
NothingDiffers = (d : Desk) → d.hall.settings.normal ≡ 0 → (xs : List Doing) → steps_of d xs ≡ steps_of01 d xs

-- "A REQUEST WITHOUT THE FIELD COUNTS AS THAT LEVEL": whatever the level, the phase and the seat, what comes of it is what comes of a
-- request whose field says the level
abbrev pub CountsAsLevel : Type 0
CountsAsLevel = (c : Core) (h : Hall) (x : ℕ) → step c h (Request x None) ≡ step c h (Request x (Some h.settings.normal))

-- "THE DESK GETS A NORMAL LEVEL AMONG ITS SETTINGS": whatever happens to a desk, its settings stay
abbrev pub SettingsStay : Type 0
SettingsStay = (d : Desk) (x : Doing) → (after d x).hall.settings ≡ d.hall.settings
