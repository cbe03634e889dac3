-- The rules, taken apart once: whatever happens to whatever desk goes one of the ways of specs/Ways. Assumes nothing.
use Prim.Native.Nat.{ℕ, ◌<◌}
use mathlib.Core.Path.{◌≡◌, refl, ap, sym, ◌∙◌}
use mathlib.Core.Bool.{Bool, true, false, not, ◌&&◌}
use mathlib.Core.List.{List, [], ◌∷◌}
use native.Mathlib.Omega.{arith}
use lib.Dec.{eqb, ltb}
use borrow.Author.Tests.{eqb-true, eqb-false, eq-eqb, ltb-true}
use Rattle.words.specs.Choice.{when◌then◌else◌, by_test, by_if}
use Rattle.words.specs.Below.{and_left}
use Rattle.words.proofs.Tests.{clash}
use Rattle.message.specs.Answers as read
use Rattle.message.specs.declared.Message.{Message}
use Rattle.reading.specs.Reading.{reading}
use Rattle.packet_events.specs.PacketEvents.{event_of, by_reading, hears}
use Rattle.line.specs.declared.Entry.{Entry}
use Rattle.line.specs.declared.Line.{Line}
use Rattle.line.specs.Line.{waiting, line_of, enter, entry_of}
use Rattle.hall.specs.declared.Hall.{Hall}
use Rattle.identities.specs.declared.Names.{Names}
use Rattle.std.specs.Prelude.{Option, Some, None, Result, Ok}
use Rattle.hall.specs.declared.Refusal.{Refusal}
use Rattle.hall.specs.declared.Refusal.TheVariants.{CallStopped, NoSuchSeat, NotExpected, NotRead}
use Rattle.joining.specs.declared.Joined.{Joined}
use Rattle.hall.specs.declared.Newcomer.{Newcomer}
use Rattle.hall.specs.Seats.{alone, queues, receives_only, effective, is_present, has_ssrc, seat_of, vacated, finds}
use Rattle.identities.specs.Identity.{no_name, with_name}
use Rattle.joining.specs.Join.{join}
use Rattle.hall.proofs.Laws.{found_holds}
use Rattle.joining.specs.Joins.{Joins, turned_away, sits_down}
use Rattle.joining.proofs.Joins.{every_join}
use Rattle.steps.specs.declared.AlsoRuns.{AlsoRuns}
use Rattle.steps.specs.declared.Kind.{Kind}
use Rattle.steps.specs.declared.Report.{Report}
use Rattle.steps.specs.declared.Phase.{Phase}
use Rattle.steps.specs.declared.Phase.TheVariants.{Stopped, Idle, Taken, Revoking}
use Rattle.steps.specs.declared.Core.{Core}
use Rattle.steps.specs.declared.Step.{Step}
use Rattle.steps.specs.Words.{is_nothing, no_marks, answered, refused, ◌with_line◌, ◌marks_ended◌}
use Rattle.steps.specs.Causes.{another_has_permission, only_one_participant, receive_only, queue_full, media_burst_preempted}
use Rattle.giving.specs.Floor.{holds, given, given_at_once, given_out_of_line, enters_idle, passes_on, floor_ends, revokes}
use Rattle.request.specs.Request.{is_idle, waits, full, presses, priority_in, denied, info_of, holder_asks, informed, pressed, rule6, moved}
use Rattle.request.specs.Request.{asks_again, placed, request}
use Rattle.events.specs.declared.Event.{Event}
use Rattle.events.specs.declared.Event.TheVariants.{Start, Stop, Expiry, Request, Release, Position, Media, Other}
use Rattle.timers.specs.declared.Timer.{Timer}
use Rattle.timers.specs.declared.Timer.TheVariants as timer
use Rattle.timers.specs.Timers.{is_stopped, runs, running}
use Rattle.firing.specs.Firing.{halted, stops, ends_in, revokes_in, idle_again, revokes_again, grants_or_ends, grants_again, fires, expires}
use Rattle.events.specs.Events.{starts, sitting, caller_of, heard, struck_off, releases, asks_place, talks, step, outcome, leave_floor}
use Rattle.events.specs.Events.{leave}
use Rattle.events.specs.declared.Desk.{Desk}
use Rattle.history.specs.Doing.{Doing, event, packet, leaves, joins, joined, does}
use Rattle.history.specs.Asking.{an_event, read_as, becomes, nobody, asks, from_seat, asked_by, asked_in, asking, gives_up, stops_in}
use Rattle.history.specs.Asking.{stops_call}
use Rattle.ways.specs.Ways as way
use Rattle.ways.proofs.Apart.{no_leave, not-leave, gives_up_lem, asks-nobody, this_one, not-asked}
use Rattle.ways.proofs.Phases.{stopped_quiet, idle_quiet, busy_else, t7_idle, taken_held, revoking_held}

-- 6
something : (l : Line) (t : ℕ) → is_nothing (info_of l t) ≡ false
unfolding info_of
something l t = by_if (λ (k : Kind). is_nothing k ≡ false) _ (λ _. refl) (λ _. refl)

module _ (c : Core) (h : Hall) (t : ℕ) where
  pub record Sixth (r : Step) : Type 0 where
    pub goes : way.Six c h t r.core r.report.first r.report.second
    pub plain : (r.answer ≡ Ok tt) × (r.report ≡ record { first = r.report.first; second = r.report.second; marks = no_marks })

  informs : Sixth (informed c h t)
  unfolding informed when◌then◌else◌
  informs =
      by_test (queues h t)
      (λ q. rw q (record { goes = way.informs refl (rw q) refl; plain = (refl, refl) }))
      (λ q. rw q (record { goes = way.informs refl (rw q) refl; plain = (refl, refl) }))

  takes_floor : (e : Entry) (b : AlsoRuns) → c.phase ≡ Taken e b → Sixth (revokes (informed c h t) e media_burst_preempted)
  unfolding informed revokes when◌then◌else◌
  takes_floor e b k =
      by_test (queues h t)
      (λ q. rw (q, something c.line t) (record { goes = way.informs_and_presses e b k refl refl refl; plain = (refl, refl) }))
      (λ q. rw q (record { goes = way.presses e b k refl refl refl; plain = (refl, refl) }))

  presses_on : (press : Bool) (p : Phase) → c.phase ≡ p → Sixth (pressed (informed c h t) p press)
  unfolding pressed
  presses_on press Stopped q = informs
  presses_on press (Idle t7) q = informs
  presses_on press (Revoking e n) q = informs
  presses_on press (Taken e b) q = by_if Sixth press (λ _. takes_floor e b q) (λ _. informs)

  six : (press : Bool) → Sixth (rule6 c h t press)
  unfolding rule6
  six press = presses_on press c.phase refl

-- the floor ends, in the hall that those who stay make up
module _ (d : Desk) (x : Doing) (g : Hall) (ns : Names) (t : ℕ) (a : asking d.hall x ≡ nobody) (f : (u : ℕ) → x ≡ leaves u → u ≡ t)
    (k : holds d.core.phase t ≡ true) where
  passes_on_lem : (es : List Entry) → waiting d.core.line ≡ es → way.Way d x (outcome (passes_on d.core g es marks_ended t) g ns)
  unfolding passes_on enters_idle given_out_of_line given
  passes_on_lem [] q = way.frees t a f k q refl (refl, refl)
  passes_on_lem (e ∷ es) q = way.passes t e es a f k q refl (refl, refl)

  ends : way.Way d x (outcome (floor_ends d.core g t) g ns)
  unfolding floor_ends
  ends = passes_on_lem (waiting d.core.line) refl

-- whatever becomes an event
module _ (d : Desk) (x : Doing) where
  abbrev c : Core
  c = d.core

  abbrev h : Hall
  h = d.hall

  abbrev W : Step → Type 0
  W r = way.Way d x (outcome r d.hall d.names)

  module _ {e : Event} (is : becomes x ≡ an_event e) where
    asks_none : asked_by h e ≡ nobody → asking h x ≡ nobody
    asks_none q = ap (asked_in h) is ∙ q

    refuse : (r : Refusal) → ((t p : ℕ) → asking h x ≡ asks t p → way.Unmoved c h t p) → W (refused c r)
    refuse r m = way.refuses r m (λ u q. no_leave is q) refl (refl, refl)

    -- Request
    module _ (t p : ℕ) (a : asking h x ≡ asks t p) (s : way.Sits h t) where
      unmoved : way.Unmoved c h t p → (u v : ℕ) → asking h x ≡ asks u v → way.Unmoved c h u v
      unmoved m = this_one (asking h x) t p a m

      denies : (n : ℕ) → n < 8 → way.Unmoved c h t p → W (denied c t n)
      unfolding denied
      denies n b m = way.denies t p n a s m b refl (refl, refl)

      holder-asks : holds c.phase t ≡ true → (o : Phase) → c.phase ≡ o → W (holder_asks c o)
      unfolding holder_asks
      holder-asks k Stopped q = refuse NotExpected (unmoved (way.holder k))
      holder-asks k (Idle t7) q = refuse NotExpected (unmoved (way.holder k))
      holder-asks k (Taken e b) q = way.grants_holder t p e b a q k refl (refl, refl)
      holder-asks k (Revoking e n) q = refuse NotExpected (unmoved (way.holder k))

      at_once : is_idle c.phase ≡ true → W (given_at_once c h (entry_of t p))
      unfolding given_at_once given
      at_once i = way.gives t p a s i refl (refl, refl)

      asks_again_lem : (press : Bool) → way.is_busy c.phase ≡ true → holds c.phase t ≡ false → waits c t ≡ true →
          W (asks_again c h t p press)
      unfolding asks_again
      asks_again_lem press b n w =
          by_if (λ (l : Line). W (rule6 (c with_line l) h t press)) (eqb (priority_in c.line t) p)
          (λ q. let z = six c h t press in way.asks_again t p _ _ a s (eqb-true _ _ q) z.goes z.plain)
          (λ q. let z = six (c with_line moved c.line (entry_of t p)) h t press in
          way.moves t p _ _ a s b n w (eqb-false _ _ q) z.goes z.plain)

      comes : (press : Bool) → way.is_busy c.phase ≡ true → holds c.phase t ≡ false → receives_only h t ≡ false → waits c t ≡ false →
          full c h ≡ false → W (placed c h t p press)
      unfolding placed
      comes press b n r w f =
          let z = six (c with_line line_of (enter (entry_of t p) (waiting c.line))) h t press in
          way.places t p _ _ a s b n r w f z.goes (z.plain.0, ap with_placed z.plain.1)
        where
          with_placed : Report → Report
          with_placed y =
              record {
                first = y.first;
                second = y.second;
                marks = record { placed = Some t; struck = y.marks.struck; ended = y.marks.ended; given = y.marks.given };
              }

      requests : is_stopped c.phase ≡ false → W (request c h t p)
      unfolding request
      requests o =
          by_if W (holds c.phase t) (λ k. holder-asks k c.phase refl)
          (λ n. by_if W (receives_only h t) (λ r. denies receive_only (omega arith) (way.only_receives r))
          (λ r. by_if W (is_idle c.phase)
          (λ i. by_if W (alone h t) (λ _. denies only_one_participant (omega arith) (way.quiet (idle_quiet c.phase i))) (λ _. at_once i))
          (λ i. by_if W (waits c t) (λ w. asks_again_lem (presses c h t p) (busy_else c.phase o i) n w)
          (λ w. by_if W (not (presses c h t p) && not (queues h t)) (λ _. denies another_has_permission (omega arith) (way.outside w))
          (λ _. by_if W (full c h) (λ _. denies queue_full (omega arith) (way.outside w))
          (λ f. comes (presses c h t p) (busy_else c.phase o i) n r w f))))))

    -- a seat's events: 21, 22, then its rule
    heard_on : (ssrc : ℕ) (rule : ℕ → Step) → ((t : ℕ) → seat_of h ssrc ≡ Some t → way.Sits h t → is_stopped c.phase ≡ false → W (rule t)) →
        (seat_of h ssrc ≡ None → (t p : ℕ) → asking h x ≡ asks t p → way.Unmoved c h t p) → W (heard c (caller_of c h ssrc) rule)
    unfolding caller_of seat_of
    heard_on ssrc rule f m =
        by_if (λ (who : Result ℕ Refusal). W (heard c who rule)) (is_stopped c.phase)
        (λ q. refuse CallStopped (λ t p _. way.quiet (stopped_quiet c.phase q)))
        (λ q. go (seat_of h ssrc) refl q)
      where
        go : (o : Option ℕ) → seat_of h ssrc ≡ o → is_stopped c.phase ≡ false → W (heard c (sitting o) rule)
        go (Some t) q o =
            let z = found_holds (has_ssrc h ssrc) 16 0 t q in f t q (record { present = and_left (is_present h t) _ z.0; below = z.1 }) o
        go None q o = refuse NoSuchSeat (m q)

    -- nobody asks
    module _ (a : asking h x ≡ nobody) where
      unasked : (t p : ℕ) → asking h x ≡ asks t p → way.Unmoved c h t p
      unasked = not-asked (asking h x) a

      unexpected : W (refused c NotExpected)
      unexpected = refuse NotExpected unasked

      ends_here : (t : ℕ) → holds c.phase t ≡ true → W (floor_ends c h t)
      ends_here t k = ends d x h d.names t a (λ u q. no_leave is q) k

      releases_on : (t : ℕ) → gives_up h x t ≡ true → W (releases c h t)
      unfolding releases struck_off
      releases_on t g =
          by_if W (holds c.phase t) (λ k. ends_here t k)
          (λ n. by_if W (waits c t) (λ w. way.strikes t a g n w refl (refl, refl)) (λ _. unexpected))

      rest : W (answered c (Ok tt))
      rest = way.rests a (λ u q. no_leave is q) refl (refl, refl)

      -- the timers
      stop_in : stops_call x ≡ true → (o : Phase) → c.phase ≡ o → W (stops c o)
      unfolding stops halted
      stop_in y Stopped q = refuse CallStopped unasked
      stop_in y (Idle t7) q = way.closes y (ap is_idle q) refl (refl, refl)
      stop_in y (Taken e b) q = way.halts e.seat y (taken_held q) refl (refl, refl)
      stop_in y (Revoking e n) q = way.halts e.seat y (revoking_held q) refl (refl, refl)

      ends_in_lem : (o : Phase) → c.phase ≡ o → W (ends_in c h o)
      unfolding ends_in
      ends_in_lem Stopped q = unexpected
      ends_in_lem (Idle t7) q = unexpected
      ends_in_lem (Taken e b) q = ends_here e.seat (taken_held q)
      ends_in_lem (Revoking e n) q = ends_here e.seat (revoking_held q)

      revokes_in_lem : becomes x ≡ an_event (Expiry (Some timer.T2)) → (o : Phase) → c.phase ≡ o → W (revokes_in c o)
      unfolding revokes_in revokes
      revokes_in_lem y Stopped q = unexpected
      revokes_in_lem y (Idle t7) q = unexpected
      revokes_in_lem y (Taken e b) q = way.revokes e b y q refl (refl, refl)
      revokes_in_lem y (Revoking e n) q = unexpected

      revokes_again_lem : becomes x ≡ an_event (Expiry (Some timer.T8)) → (o : Phase) → c.phase ≡ o → W (revokes_again c o)
      unfolding revokes_again
      revokes_again_lem y Stopped q = unexpected
      revokes_again_lem y (Idle t7) q = unexpected
      revokes_again_lem y (Taken e b) q = unexpected
      revokes_again_lem y (Revoking e n) q = way.revokes_again e n y q refl (refl, refl)

      idles_again_lem : becomes x ≡ an_event (Expiry (Some timer.T7)) → is_idle c.phase ≡ true → W (idle_again c h)
      unfolding idle_again
      idles_again_lem y i =
          by_if W (ltb c.c7 h.settings.c7) (λ q. way.idles_again y i (ltb-true _ _ q) refl (refl, refl))
          (λ _. way.idles_on y i refl (refl, refl))

      grants_again_lem : becomes x ≡ an_event (Expiry (Some timer.T20)) → (o : Phase) → c.phase ≡ o → W (grants_again c h o)
      unfolding grants_again grants_or_ends
      grants_again_lem y Stopped q = unexpected
      grants_again_lem y (Idle t7) q = unexpected
      grants_again_lem y (Taken e b) q =
          by_if W (ltb c.c20 h.settings.c20) (λ z. way.grants_again e b y q (ltb-true _ _ z) refl (refl, refl))
          (λ _. ends_here e.seat (taken_held q))
      grants_again_lem y (Revoking e n) q = unexpected

      -- media, start
      talks_on : (s t : ℕ) → becomes x ≡ an_event (Media s) → (o : Phase) → c.phase ≡ o → W (talks c t o)
      unfolding talks
      talks_on s t y Stopped q = unexpected
      talks_on s t y (Idle t7) q = unexpected
      talks_on s t y (Taken e b) q = by_if W (eqb e.seat t) (λ _. way.talks s e b y q refl (refl, refl)) (λ _. unexpected)
      talks_on s t y (Revoking e n) q = by_if W (eqb e.seat t) (λ _. rest) (λ _. unexpected)

      starts_on_lem : becomes x ≡ an_event Start → (o : Phase) → c.phase ≡ o → W (starts c h o)
      unfolding starts enters_idle
      starts_on_lem y Stopped q = way.starts y q refl (refl, refl)
      starts_on_lem y (Idle t7) q = unexpected
      starts_on_lem y (Taken e b) q = unexpected
      starts_on_lem y (Revoking e n) q = unexpected

fires_on : (d : Desk) (x : Doing) (t : Option Timer) → becomes x ≡ an_event (Expiry t) → runs (running d.core.phase) t ≡ true →
    W d x (fires d.core d.hall t)
unfolding fires
fires_on d x (Some timer.T1) y q = ends_in_lem d x y (asks_none d x y refl) d.core.phase refl
fires_on d x (Some timer.T2) y q = revokes_in_lem d x y (asks_none d x y refl) y d.core.phase refl
fires_on d x (Some timer.T3) y q = ends_in_lem d x y (asks_none d x y refl) d.core.phase refl
fires_on d x (Some timer.T4) y q = stop_in d x y (asks_none d x y refl) (ap stops_in y) d.core.phase refl
fires_on d x (Some timer.T7) y q = idles_again_lem d x y (asks_none d x y refl) y (t7_idle d.core.phase q)
fires_on d x (Some timer.T8) y q = revokes_again_lem d x y (asks_none d x y refl) y d.core.phase refl
fires_on d x (Some timer.T20) y q = grants_again_lem d x y (asks_none d x y refl) y d.core.phase refl
fires_on d x None y q = clash q refl

expires_on : (d : Desk) (x : Doing) (t : Option Timer) → becomes x ≡ an_event (Expiry t) → W d x (expires d.core d.hall t)
unfolding expires
expires_on d x t y =
    by_if (W d x) (is_stopped d.core.phase) (λ _. refuse d x y CallStopped (unasked d x y (asks_none d x y refl)))
    (λ _. by_if (W d x) (runs (running d.core.phase) t) (λ q. fires_on d x t y q) (λ _. unexpected d x y (asks_none d x y refl)))

places_on : (d : Desk) (x : Doing) (s t : ℕ) → becomes x ≡ an_event (Position s) → way.Sits d.hall t → W d x (asks_place d.core t)
unfolding asks_place
places_on d x s t y k = way.tells s t y k refl (refl, refl)

events : (d : Desk) (x : Doing) (e : Event) → becomes x ≡ an_event e → W d x (step d.core d.hall e)
unfolding step
events d x Start y = starts_on_lem d x y (asks_none d x y refl) y d.core.phase refl
events d x Stop y = stop_in d x y (asks_none d x y refl) (ap stops_in y) d.core.phase refl
events d x (Expiry t) y = expires_on d x t y
events d x (Request s a) y =
    heard_on d x y s _ (λ t q k o. requests d x y t (effective d.hall t a) (ap (asked_in d.hall) y ∙ ap (from_seat d.hall a) q) k o)
    (λ q t p z. asks-nobody (sym (ap (asked_in d.hall) y ∙ ap (from_seat d.hall a) q) ∙ z))
events d x (Release s) y =
    heard_on d x y s _
    (λ t q k o. releases_on d x y (asks_none d x y refl) t
    (gives_up_lem d.hall x (Release s) t y ∙ ap (λ (f : Option ℕ). finds f t) q ∙ eq-eqb t t refl))
    (λ _. unasked d x y (asks_none d x y refl))
events d x (Position s) y = heard_on d x y s _ (λ t q k o. places_on d x s t y k) (λ _. unasked d x y (asks_none d x y refl))
events d x (Media s) y =
    heard_on d x y s _ (λ t q k o. talks_on d x y (asks_none d x y refl) s t y d.core.phase refl)
    (λ _. unasked d x y (asks_none d x y refl))
events d x (Other s) y = heard_on d x y s _ (λ t q k o. unexpected d x y (asks_none d x y refl)) (λ _. unasked d x y (asks_none d x y refl))

-- a packet goes the way of the event that it is read as, or it is refused
packets : (d : Desk) (o : List ℕ) (a : read.Answer Message) → reading o ≡ a →
    way.Way d (packet o) (outcome (by_reading d.core d.hall a) d.hall d.names)
packets d o (read.refused n) q =
    way.refuses (NotRead n) (λ t p z. asks-nobody (sym (ap (λ (a : read.Answer Message). asked_in d.hall (read_as a)) q) ∙ z))
    (λ u z. not-leave refl z) refl (refl, refl)
packets d o (read.result m) q = events d (packet o) (event_of m) (ap read_as q)

-- Leave
same_leaver : {u t : ℕ} → leaves t ≡ leaves u → u ≡ t
same_leaver q = cc

leaves_on : (d : Desk) (t : ℕ) →
    way.Way d (leaves t) (outcome (leave_floor d.core d.hall t) (vacated d.hall t) (with_name d.names t no_name))
unfolding leave_floor struck_off
leaves_on d t =
    let g = vacated d.hall t in
    let ns = with_name d.names t no_name in
    by_if (λ (r : Step). way.Way d (leaves t) (outcome r g ns)) (holds d.core.phase t)
    (λ k. ends d (leaves t) g ns t refl (λ u q. same_leaver q) k)
    (λ n. by_if (λ (r : Step). way.Way d (leaves t) (outcome r g ns)) (waits d.core t)
    (λ w. way.strikes t refl (eq-eqb t t refl) n w refl (refl, refl))
    (λ w. way.rests refl (λ u q. rw (same_leaver q) (n, w)) refl (refl, refl)))

-- Join
joins_on_lem : (d : Desk) (o : List ℕ) (n : Newcomer) (j : Joined) → Joins d.hall d.names o n j →
    way.Way d (joins o n) (joined d.core j)
joins_on_lem d o n j (turned_away r q) = rw q (way.refuses r (λ t p z. asks-nobody z) (λ u z. not-leave refl z) refl (refl, refl))
joins_on_lem d o n j (sits_down s p f b k q) = rw q (way.rests refl (λ u z. not-leave refl z) refl (refl, refl))

pub every_way : way.EveryWay
unfolding does hears leave
every_way d (event e) = events d (event e) e refl
every_way d (packet o) = packets d o (reading o) refl
every_way d (leaves t) =
    by_if (way.Way d (leaves t)) (is_present d.hall t) (λ _. leaves_on d t)
    (λ n. way.refuses NoSuchSeat (λ u p z. asks-nobody z) (λ u z. rw (same_leaver z) n) refl (refl, refl))
every_way d (joins o n) = joins_on_lem d o n (join d.hall d.names o n) (every_join d.hall d.names o n)
