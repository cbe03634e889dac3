-- Whatever way a step goes on a desk that is right, its report is of the shape that octets say. Assumes nothing.
use Prim.Native.Nat.{ℕ, ◌≤◌, ◌<◌}
use mathlib.Core.Path.{◌≡◌, refl, ◌∙◌}
use mathlib.Core.Bool.{Bool, true, false}
use mathlib.Core.List.{List, [], ◌∷◌}
use native.Mathlib.Omega.{arith}
use lib.ListN.{length, set, length-take, length-set}
use borrow.Author.Tests.{ltb-true}
use Rattle.words.specs.Choice.{by_if}
use Rattle.line.specs.declared.Entry.{Entry}
use Rattle.line.specs.declared.Line.{Line}
use Rattle.line.specs.Line.{waiting, line_of, empty, before, priority_of, is_in, enter, without, added, seat_set, no_seats}
use Rattle.marks.proofs.InLine.{first_in}
use Rattle.hall.specs.declared.Hall.{Hall}
use Rattle.hall.specs.Seats.{is_present, queues, only, everybody, others}
use Rattle.steps.specs.declared.Core.{Core}
use Rattle.steps.specs.declared.Kind.{Kind}
use Rattle.steps.specs.declared.Kind.TheVariants as say
use Rattle.steps.specs.declared.Sending.{Sending}
use Rattle.steps.specs.Words.{next, ◌⇒◌, silence, no_marks}
use Rattle.giving.specs.Floor.{holds}
use Rattle.line.specs.Line.{entry_of}
use Rattle.request.specs.Request.{priority_in, info_of}
use Rattle.events.specs.declared.Outcome.{Outcome}
use Rattle.events.specs.declared.Desk.{Desk}
use Rattle.history.specs.Doing.{Doing, does}
use Rattle.history.specs.Asking.{asks, asking}
use Rattle.ways.specs.Ways.{Six, informs, presses, informs_and_presses}
use Rattle.ways.specs.Ways as way
use Rattle.ways.proofs.Walk.{every_way}
use Rattle.reach.specs.Sound.{HallOk}
use Rattle.reach.proofs.Hall.{hall_ok}
use Rattle.reach.proofs.InLine.{present_below}
use Rattle.report_octets_laws.specs.Reported.{KindFits, MessageFits, MarksFit, ReportFits}
use Rattle.floor_laws.specs.Kept.{desk_at, StepFits}
use Rattle.floor_laws.proofs.All.{All, all_at}
use Rattle.floor_laws.proofs.Narrow.{Small, none_small, waiting_small, line_small, enter_small, without_small, asker_small}
use Rattle.floor_laws.proofs.Numbers.{top, cause_small}
use Rattle.floor_laws.proofs.Desks.{Right, right_at, right_kept}
use Rattle.steps.specs.Causes.{media_burst_too_long, media_burst_preempted}

-- sets
only_sixteen : (s : ℕ) → length (only s) ≡ 16
only_sixteen s = length-set no_seats s true

added-length : (seats : List Bool) (es : List Entry) → length (added seats es) ≡ length seats
added-length seats [] = refl
added-length seats (e ∷ es) = added-length (set seats e.seat true) es ∙ length-set seats e.seat true

line_sixteen : (es : List Entry) → length (seat_set es) ≡ 16
unfolding seat_set
line_sixteen es = added-length no_seats es

-- messages
silent : MessageFits silence
silent = record { kind = tt; to = refl }

to_one : (k : Kind) → KindFits k → (s : ℕ) → MessageFits (k ⇒ only s)
to_one k f s = record { kind = f; to = only_sixteen s }

next_small : (n : ℕ) → next n < 65536
unfolding next
next_small n = omega arith

info_fits : (l : Line) (t : ℕ) → length (waiting l) ≤ 15 → All Small (waiting l) → KindFits (info_of l t)
unfolding info_of priority_in priority_of
info_fits l t b k =
    by_if KindFits (is_in t (waiting l))
    (λ q. (
      omega (arith, ltb-true (before t (waiting l)) (length (waiting l)) q),
      (all_at Small empty none_small (waiting l) k (before t (waiting l))).1,
    ))
    (λ _. (omega arith, omega arith))

six_fits : {c : Core} {h : Hall} {t : ℕ} {new : Core} {first second : Sending} → length (waiting c.line) ≤ 15 →
    All Small (waiting c.line) →
    Six c h t new first second → MessageFits first × MessageFits second
six_fits {c} {h} {t} b k (informs q f s) =
    (rw f (by_if MessageFits (queues h t) (λ _. to_one (info_of c.line t) (info_fits c.line t b k) t) (λ _. silent)), rw s silent)
six_fits {c} {h} {t} b k (presses e x p q f s) = (rw f (to_one (say.Revoke media_burst_preempted) (omega arith) e.seat), rw s silent)
six_fits {c} {h} {t} b k (informs_and_presses e x p q f s) = (
  rw f (to_one (info_of c.line t) (info_fits c.line t b k) t),
  rw s (to_one (say.Revoke media_burst_preempted) (omega arith) e.seat),
)

line_short : (es : List Entry) → length (waiting (line_of es)) ≤ 15
unfolding waiting line_of
line_short es = simp length-take (omega arith)

lined_small : (es : List Entry) → All Small es → All Small (waiting (line_of es))
lined_small es k = waiting_small (line_of es) (line_small es k)

-- marks
unmarked : MarksFit no_marks
unmarked = record { placed = tt; struck = refl; ended = tt; given = tt }

module _ (d : Desk) (k : Right d) where
  its_hall : HallOk d.hall
  its_hall = hall_ok d.hall d.names k.sound.seats

  seat_below : (s : ℕ) → is_present d.hall s ≡ true → s < 16
  seat_below = present_below d.hall its_hall

  holder_below : (s : ℕ) → holds d.core.phase s ≡ true → s < 16
  holder_below s q = seat_below s (k.sound.core.floor.holder s q)

  there : All Small (waiting d.core.line)
  there = waiting_small d.core.line k.narrow.core.line

  short : length (waiting d.core.line) ≤ 15
  short = omega (arith, k.sound.core.line.list.within, its_hall.limit)

  module _ (x : Doing) (l : Outcome) (whole : length l.desk.hall.present ≡ 16) where
    small_asker : (t p : ℕ) → asking d.hall x ≡ asks t p → way.Sits d.hall t → Small (entry_of t p)
    small_asker t p a s = asker_small d.hall (top d.hall d.names k.narrow.seats) x t p a s

    idles : (n : ℕ) → n < 65536 → MessageFits (say.Idle n ⇒ everybody l.desk.hall)
    idles n b = record { kind = b; to = whole }

    takes : (t n : ℕ) → t < 16 → n < 65536 → MessageFits (say.Taken t n ⇒ others l.desk.hall t)
    takes t n a b = record { kind = (a, b); to = length-set l.desk.hall.present t false ∙ whole }

    pub fits : way.Way d x l → ReportFits l.report
    fits (way.refuses r u v q m) = rw m.1 (record { first = silent; second = silent; marks = unmarked })
    fits (way.grants_holder t p e b a w n q m) =
        let s : Small e = rw w at k.narrow.core.holder in
        rw m.1 (record { first = to_one (say.Granted e.priority) s.1 e.seat; second = silent; marks = unmarked })
    fits (way.denies t p n a s u b q m) =
        rw m.1 (record { first = to_one (say.Deny n) (omega (arith, b)) t; second = silent; marks = unmarked })
    fits (way.gives t p a s i q m) =
        rw m.1 (record {
          first = to_one (say.Granted p) (small_asker t p a s).1 t;
          second = takes t (next d.core.sequence) s.below (next_small d.core.sequence);
          marks = record { placed = tt; struck = refl; ended = tt; given = s.below };
        })
    fits (way.asks_again t p f g a s w z m) =
        let y = six_fits short there z in
        rw m.1 (record { first = y.0; second = y.1; marks = unmarked })
    fits (way.moves t p f g a s b n w r z m) =
        let es = enter (entry_of t p) (without (only t) (waiting d.core.line)) in
        let v : All Small es =
        enter_small (entry_of t p) (without (only t) (waiting d.core.line)) (small_asker t p a s)
        (without_small (only t) (waiting d.core.line) there) in
        let y = six_fits (line_short es) (lined_small es v) z in
        rw m.1 (record { first = y.0; second = y.1; marks = unmarked })
    fits (way.places t p f g a s b n r w u z m) =
        let es = enter (entry_of t p) (waiting d.core.line) in
        let v : All Small es = enter_small (entry_of t p) (waiting d.core.line) (small_asker t p a s) there in
        let y = six_fits (line_short es) (lined_small es v) z in
        rw m.1 (record { first = y.0; second = y.1; marks = record { placed = s.below; struck = refl; ended = tt; given = tt } })
    fits (way.passes t e es a f n w q m) =
        let y : All Small (e ∷ es) = rw w at there in
        let b : e.seat < 16 = seat_below e.seat (k.sound.core.line.list.here e.seat (rw w (first_in e es))) in
        rw m.1 (record {
          first = to_one (say.Granted e.priority) y.0.1 e.seat;
          second = takes e.seat (next d.core.sequence) b (next_small d.core.sequence);
          marks = record { placed = tt; struck = refl; ended = holder_below t n; given = b };
        })
    fits (way.frees t a f n w q m) =
        rw m.1 (record {
          first = idles (next d.core.sequence) (next_small d.core.sequence);
          second = silent;
          marks = record { placed = tt; struck = refl; ended = holder_below t n; given = tt };
        })
    fits (way.strikes t a g n w q m) =
        rw m.1 (record {
          first = silent;
          second = silent;
          marks = record { placed = tt; struck = only_sixteen t; ended = tt; given = tt };
        })
    fits (way.tells s t y i q m) =
        rw m.1 (record {
          first = to_one (info_of d.core.line t) (info_fits d.core.line t short there) t;
          second = silent;
          marks = unmarked;
        })
    fits (way.talks s e b y w q m) = rw m.1 (record { first = silent; second = silent; marks = unmarked })
    fits (way.rests a f q m) = rw m.1 (record { first = silent; second = silent; marks = unmarked })
    fits (way.starts y w q m) =
        rw m.1 (record { first = idles (next d.core.sequence) (next_small d.core.sequence); second = silent; marks = unmarked })
    fits (way.halts t y n q m) =
        rw m.1 (record {
          first = silent;
          second = silent;
          marks = record { placed = tt; struck = line_sixteen (waiting d.core.line); ended = holder_below t n; given = tt };
        })
    fits (way.closes y i q m) =
        rw m.1 (record {
          first = silent;
          second = silent;
          marks = record { placed = tt; struck = line_sixteen (waiting d.core.line); ended = tt; given = tt };
        })
    fits (way.revokes e b y w q m) =
        rw m.1 (record { first = to_one (say.Revoke media_burst_too_long) (omega arith) e.seat; second = silent; marks = unmarked })
    fits (way.revokes_again e n y w q m) =
        let c : n < 65536 = rw w at (cause_small d.core.phase k.sound.core.floor.cause) in
        rw m.1 (record { first = to_one (say.Revoke n) c e.seat; second = silent; marks = unmarked })
    fits (way.grants_again e b y w z q m) =
        let s : Small e = rw w at k.narrow.core.holder in
        rw m.1 (record { first = to_one (say.Granted e.priority) s.1 e.seat; second = silent; marks = unmarked })
    fits (way.idles_again y i z q m) =
        rw m.1 (record { first = idles (next d.core.sequence) (next_small d.core.sequence); second = silent; marks = unmarked })
    fits (way.idles_on y i q m) = rw m.1 (record { first = silent; second = silent; marks = unmarked })

pub step_fits : StepFits
step_fits d o q x w =
    let k = right_at d o q in
    fits (desk_at d) k x (does (desk_at d) x) (right_kept (desk_at d) x w k).sound.seats.columns.0 (every_way (desk_at d) x)
