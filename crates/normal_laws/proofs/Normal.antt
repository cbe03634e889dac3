-- With level 0 nothing differs from document 01, since settings stay; no field counts as the level. Assumes nothing.
use Rattle.std.proofs.Common.{Option, Some, None, Result, Ok, Err, is_some}
use Prim.Native.Nat.{ℕ}
use mathlib.Core.Bool.{not}
use mathlib.Core.List.{List, [], ◌∷◌}
use mathlib.Core.Path.{◌≡◌, refl, ap, ◌∙◌}
use Rattle.words.specs.Choice.{by_if}
use Rattle.message.specs.Answers.{Answer, refused, result}
use Rattle.message.specs.declared.Message.{Message}
use Rattle.reading.specs.Reading.{reading}
use Rattle.hall.specs.declared.Settings.{Settings}
use Rattle.hall.specs.declared.Refusal.{Refusal}
use Rattle.hall.specs.declared.Hall.{Hall}
use Rattle.hall.specs.declared.Newcomer.{Newcomer}
use Rattle.hall.specs.Seats.{is_present, effective, free_seat, with_seat}
use Rattle.identities.specs.declared.Names.{Names}
use Rattle.identities.specs.Identity.{seat_named, length_allowed}
use Rattle.joining.specs.declared.Joined.{Joined}
use Rattle.joining.specs.Join.{ssrc_taken, seated, join}
use Rattle.steps.specs.declared.Core.{Core}
use Rattle.steps.specs.declared.Step.{Step}
use Rattle.request.specs.Request.{request}
use Rattle.events.specs.declared.Event.{Event}
use Rattle.events.specs.declared.Event.TheVariants.{Start, Stop, Expiry, Request, Release, Position, Media, Other}
use Rattle.events.specs.declared.Desk.{Desk}
use Rattle.events.specs.declared.Outcome.{Outcome}
use Rattle.events.specs.Events.{outcome, caller_of, heard, step, leave}
use Rattle.packet_events.specs.PacketEvents.{event_of, by_reading, hears}
use Rattle.history.specs.Doing.{Doing, event, packet, leaves, joins, does}
use Rattle.normal_laws.specs.Normal.{effective01, step01, by_reading01, does01, steps_of01, NothingDiffers, CountsAsLevel, SettingsStay}

-- settings stay
module _ (h : Hall) (ns : Names) (o : List ℕ) (n : Newcomer) where
  abbrev Same : Joined → Type 0
  Same j = j.hall.settings ≡ h.settings

  seated-same : (f : Option ℕ) → Same (seated h ns o n f)
  unfolding seated with_seat
  seated-same (Some s) = refl
  seated-same None = refl

  join-same : Same (join h ns o n)
  unfolding join
  join-same =
      by_if Same (not (length_allowed o)) (λ _. refl)
      (λ _. by_if Same (is_some (seat_named h ns o)) (λ _. refl)
      (λ _. by_if Same (ssrc_taken h n.ssrc) (λ _. refl) (λ _. seated-same (free_seat h))))

pub settings_stay : SettingsStay
unfolding does leave with_seat
settings_stay d (event e) = refl
settings_stay d (packet octets) = refl
settings_stay d (leaves s) =
    by_if (λ (r : Outcome). r.desk.hall.settings ≡ d.hall.settings) (is_present d.hall s) (λ _. refl) (λ _. refl)
settings_stay d (joins o n) = join-same d.hall d.names o n

-- no field counts as the level
pub counts_as_level : CountsAsLevel
unfolding step effective
counts_as_level c h x = refl

-- with level 0 nothing differs
module _ (h : Hall) (z : h.settings.normal ≡ 0) where
  effective-same : (s : ℕ) (a : Option ℕ) → effective h s a ≡ effective01 h s a
  unfolding effective
  effective-same s (Some p) = refl
  effective-same s None = rw z

  heard-same : (c : Core) (who : Result ℕ Refusal) (a : Option ℕ) →
      heard c who (λ s. request c h s (effective h s a)) ≡ heard c who (λ s. request c h s (effective01 h s a))
  heard-same c (Ok s) a = ap (request c h s) (effective-same s a)
  heard-same c (Err n) a = refl

  step_same : (c : Core) (e : Event) → step c h e ≡ step01 c h e
  unfolding step
  step_same c (Request x a) = heard-same c (caller_of c h x) a
  step_same c Start = refl
  step_same c Stop = refl
  step_same c (Expiry t) = refl
  step_same c (Release x) = refl
  step_same c (Position x) = refl
  step_same c (Media x) = refl
  step_same c (Other x) = refl

  reading-same : (c : Core) (m : Answer Message) → by_reading c h m ≡ by_reading01 c h m
  reading-same c (refused n) = refl
  reading-same c (result m) = step_same c (event_of m)

does-same : (d : Desk) → d.hall.settings.normal ≡ 0 → (x : Doing) → does d x ≡ does01 d x
unfolding does hears
does-same d z (event e) = ap (λ (r : Step). outcome r d.hall d.names) (step_same d.hall z d.core e)
does-same d z (packet octets) = ap (λ (r : Step). outcome r d.hall d.names) (reading-same d.hall z d.core (reading octets))
does-same d z (leaves s) = refl
does-same d z (joins o n) = refl

pub nothing_differs : NothingDiffers
nothing_differs d z [] = refl
nothing_differs d z (x ∷ xs) =
    let stays : (does d x).desk.hall.settings.normal ≡ 0 = ap (λ (g : Settings). g.normal) (settings_stay d x) ∙ z in
    ap (λ (l : List Outcome). does d x ∷ l) (nothing_differs (does d x).desk stays xs)
    ∙ ap (λ (o : Outcome). o ∷ steps_of01 o.desk xs) (does-same d z x)
