-- Whatever way a step goes, it keeps a core right; and who leaves neither holds the floor nor waits any more. Assumes nothing.
use Prim.Native.Nat.{ℕ, ◌<◌}
use mathlib.Core.Path.{◌≡◌, refl, ap, sym, ◌∙◌}
use mathlib.Core.Bool.{Bool, true, false, not, ◌&&◌}
use mathlib.Core.List.{List, [], ◌∷◌}
use native.Mathlib.Omega.{arith}
use lib.Dec.{eqb}
use lib.ListN.{length, get_or}
use borrow.Author.Tests.{eqb-true, leb-false}
use Rattle.words.specs.Choice.{by_test}
use Rattle.words.proofs.Tests.{clash, neither_left}
use Rattle.line.specs.declared.Entry.{Entry}
use Rattle.line.specs.Line.{waiting, line_of, is_in, enter, without, entry_of}
use Rattle.line.proofs.Laws.{waiting-line_of, without_le}
use Rattle.hall.specs.declared.Hall.{Hall}
use Rattle.hall.specs.Seats.{only, is_present}
use Rattle.steps.specs.declared.AlsoRuns.{AlsoRuns}
use Rattle.steps.specs.declared.AlsoRuns.TheVariants.{NoMore, T2, T20}
use Rattle.steps.specs.declared.Phase.{Phase}
use Rattle.steps.specs.declared.Phase.TheVariants.{Stopped, Idle, Taken, Revoking}
use Rattle.steps.specs.declared.Core.{Core}
use Rattle.steps.specs.declared.Sending.{Sending}
use Rattle.steps.specs.Words.{next, numbered, ◌in_phase◌, ◌with_line◌, ◌counting_c7◌}
use Rattle.steps.specs.Causes.{media_burst_too_long, media_burst_preempted}
use Rattle.giving.specs.Floor.{holds}
use Rattle.request.specs.Request.{waits, full}
use Rattle.events.specs.declared.Outcome.{Outcome}
use Rattle.events.specs.declared.Desk.{Desk}
use Rattle.history.specs.Doing.{Doing, leaves}
use Rattle.marks.proofs.InLine.{none_in, in_cons, first_in, in_enter, in_without, gone_out, one_less}
use Rattle.ways.specs.Ways.{is_busy, Six, informs, presses, informs_and_presses}
use Rattle.ways.specs.Ways as way
use Rattle.ways.proofs.Apart.{no_event_lem, asks-nobody}
use Rattle.ways.proofs.Phases.{idle_quiet}
use Rattle.reach.specs.Sound.{ListOk, FloorOk, HallOk, CoreOk, cause_ok}
use Rattle.reach.proofs.InLine.{none_ok, without_ok, enter_ok, line_ok, present_below}

next_below : (n : ℕ) → next n < 65536
unfolding next
next_below n = omega arith

without_nil : (seats : List Bool) → without seats [] ≡ []
unfolding without
without_nil seats = refl

-- who was not in line is not in line when others are struck off
still_out : (s : ℕ) (seats : List Bool) (es : List Entry) → is_in s es ≡ false → is_in s (without seats es) ≡ false
still_out s seats es q = in_without s seats es ∙ ap (λ (b : Bool). b && not (get_or seats s false)) q

module _ (h : Hall) (k : HallOk h) where
  -- nobody holds the floor, and nobody waits
  empty_floor : (p : Phase) (es : List Entry) → is_busy p ≡ false → es ≡ [] → FloorOk h p es
  empty_floor Stopped es b w = record { out = λ s q. clash q refl; still = λ _. w; holder = λ s q. clash q refl; cause = refl }
  empty_floor (Idle t7) es b w = record { out = λ s q. clash q refl; still = λ _. w; holder = λ s q. clash q refl; cause = refl }
  empty_floor (Taken e x) es b w = clash refl b
  empty_floor (Revoking e n) es b w = clash refl b

  -- somebody holds the floor who is present and does not wait
  held_floor : (p : Phase) (t : ℕ) (es : List Entry) → ((s : ℕ) → holds p s ≡ eqb t s) → is_busy p ≡ true → cause_ok p ≡ true →
      is_in t es ≡ false → is_present h t ≡ true → FloorOk h p es
  held_floor p t es f b u n i =
      record {
        out = λ s q. ap (λ (x : ℕ). is_in x es) (sym (eqb-true t s (sym (f s) ∙ q))) ∙ n;
        still = λ z. clash b z;
        holder = λ s q. ap (is_present h) (sym (eqb-true t s (sym (f s) ∙ q))) ∙ i;
        cause = u;
      }

  -- another line on the same floor
  relined : (c : Core) → CoreOk h c → (x : List Entry) → ListOk h x → ((s : ℕ) → holds c.phase s ≡ true → is_in s x ≡ false) →
      (is_busy c.phase ≡ false → x ≡ []) → CoreOk h (c with_line line_of x)
  relined c o x y f g =
      let w : waiting (line_of x) ≡ x = waiting-line_of x (omega (arith, y.within, k.limit)) in
      record {
        line = line_ok h k x y;
        floor = record { out = λ s q. ap (is_in s) w ∙ f s q; still = λ b. w ∙ g b; holder = o.floor.holder; cause = o.floor.cause };
        numbers = record { sequence = o.numbers.sequence; c7 = o.numbers.c7; c20 = o.numbers.c20 };
      }

  -- the same holder in another phase
  turned : (c : Core) → CoreOk h c → (e : Entry) (p : Phase) → ((s : ℕ) → holds c.phase s ≡ eqb e.seat s) →
      ((s : ℕ) → holds p s ≡ eqb e.seat s) → is_busy p ≡ true → cause_ok p ≡ true → CoreOk h (c in_phase p)
  turned c o e p f g b u =
      record {
        line = o.line;
        floor =
            record {
              out = λ s q. o.floor.out s (f s ∙ sym (g s) ∙ q);
              still = λ z. clash b z;
              holder = λ s q. o.floor.holder s (f s ∙ sym (g s) ∙ q);
              cause = u;
            };
        numbers = record { sequence = o.numbers.sequence; c7 = o.numbers.c7; c20 = o.numbers.c20 };
      }

  revoked : (c : Core) → CoreOk h c → (e : Entry) (b : AlsoRuns) (n : ℕ) → c.phase ≡ Taken e b → cause_ok (Revoking e n) ≡ true →
      CoreOk h (c in_phase Revoking e n)
  revoked c o e b n q u = turned c o e (Revoking e n) (λ s. ap (λ (p : Phase). holds p s) q) (λ s. refl) refl u

  six : {c : Core} {t : ℕ} {new : Core} {first second : Sending} → CoreOk h c → Six c h t new first second → CoreOk h new
  six {c} o (informs q f s) = rw q o
  six {c} o (presses e b k q f s) = rw q (revoked c o e b media_burst_preempted k refl)
  six {c} o (informs_and_presses e b k q f s) = rw q (revoked c o e b media_burst_preempted k refl)

  -- the call is idle
  quiet : (c : Core) → CoreOk h c → waiting c.line ≡ [] → CoreOk h (numbered (c in_phase Idle true counting_c7 1))
  quiet c o w =
      record {
        line = o.line;
        floor = empty_floor (Idle true) (waiting c.line) refl w;
        numbers = record { sequence = next_below c.sequence; c7 = k.c7; c20 = o.numbers.c20 };
      }

  halted : (c : Core) → CoreOk h c → CoreOk h (c in_phase Stopped with_line line_of [])
  halted c o =
      record {
        line = line_ok h k [] (none_ok h);
        floor = empty_floor Stopped (waiting (line_of [])) refl (waiting-line_of [] (omega arith));
        numbers = record { sequence = o.numbers.sequence; c7 = o.numbers.c7; c20 = o.numbers.c20 };
      }

module _ (d : Desk) (x : Doing) (l : Outcome) (k : HallOk d.hall) (o : CoreOk d.hall d.core) where
  abbrev h : Hall
  h = d.hall

  abbrev c : Core
  c = d.core

  abbrev line : List Entry
  line = waiting d.core.line

  -- who goes in is not the holder
  not-holder : (t : ℕ) (es : List Entry) → holds c.phase t ≡ false → ((s : ℕ) → holds c.phase s ≡ true → is_in s es ≡ false) →
      (p s : ℕ) → holds c.phase s ≡ true → is_in s (enter (entry_of t p) es) ≡ false
  not-holder t es n f p s q =
      in_enter s (entry_of t p) es
      ∙ by_test (eqb t s) (λ z. clash q (ap (λ (y : ℕ). holds c.phase y) (sym (eqb-true t s z)) ∙ n)) (λ z. rw z (f s q))

  head_here : (e : Entry) (es : List Entry) → line ≡ e ∷ es → is_present h e.seat ≡ true
  head_here e es w = o.line.list.here e.seat (ap (is_in e.seat) w ∙ first_in e es)

  pub keeps : way.Way d x l → CoreOk h l.desk.core
  unfolding waits full
  keeps (way.refuses r u v q m) = rw (ap (λ (y : Desk). y.core) q) o
  keeps (way.grants_holder t p e b a w n q m) = rw q o
  keeps (way.denies t p n a s u b q m) = rw (ap (λ (y : Desk). y.core) q) o
  keeps (way.gives t p a s i q m) =
      rw q (record {
        line = o.line;
        floor =
            held_floor h k (Taken (entry_of t p) NoMore) t line (λ s. refl) refl refl (none_in t (o.floor.still (idle_quiet c.phase i)))
            s.present;
        numbers = record { sequence = next_below c.sequence; c7 = o.numbers.c7; c20 = o.numbers.c20 };
      })
  keeps (way.asks_again t p f g a s w z m) = six h k o z
  keeps (way.moves t p f g a s b n w r z m) =
      let y = without (only t) line in
      let u : length y < length line = one_less t line s.below w in
      let v : ListOk h (enter (entry_of t p) y) =
      enter_ok h (entry_of t p) y (gone_out t line s.below) (omega (arith, o.line.list.within)) s.present
      (without_ok h (only t) line o.line.list) in
      six h k (relined h k c o (enter (entry_of t p) y) v (not-holder t y n (λ i q. still_out i (only t) line (o.floor.out i q)) p)
      (λ q. clash b q)) z
  keeps (way.places t p f g a s b n r w u z m) =
      six h k (relined h k c o (enter (entry_of t p) line) (enter_ok h (entry_of t p) line w (leb-false _ _ u) s.present o.line.list)
      (not-holder t line n o.floor.out p) (λ q. clash b q)) z
  keeps (way.passes t e es a f n w q m) =
      let y = without (only e.seat) (e ∷ es) in
      let u : ListOk h y = without_ok h (only e.seat) (e ∷ es) (rw w at o.line.list) in
      let i = head_here e es w in
      let v : waiting (line_of y) ≡ y = waiting-line_of y (omega (arith, u.within, k.limit)) in
      rw q (record {
        line = line_ok h k y u;
        floor =
            held_floor h k (Taken e T20) e.seat (waiting (line_of y)) (λ s. refl) refl refl
            (ap (is_in e.seat) v ∙ gone_out e.seat (e ∷ es) (present_below h k e.seat i)) i;
        numbers = record { sequence = next_below c.sequence; c7 = o.numbers.c7; c20 = k.c20 };
      })
  keeps (way.frees t a f n w q m) = rw q (quiet h k c o w)
  keeps (way.strikes t a g n w q m) =
      rw q (relined h k c o (without (only t) line) (without_ok h (only t) line o.line.list)
      (λ s i. still_out s (only t) line (o.floor.out s i)) (λ b. ap (without (only t)) (o.floor.still b) ∙ without_nil (only t)))
  keeps (way.tells s t y i q m) = rw q o
  keeps (way.talks s e b y w q m) = rw q (turned h k c o e (Taken e T2) (λ s. ap (λ (p : Phase). holds p s) w) (λ s. refl) refl refl)
  keeps (way.rests a f q m) = rw q o
  keeps (way.starts y w q m) = rw q (quiet h k c o (o.floor.still (ap is_busy w)))
  keeps (way.halts t y n q m) = rw q (halted h k c o)
  keeps (way.closes y i q m) = rw q (halted h k c o)
  keeps (way.revokes e b y w q m) = rw q (revoked h k c o e b media_burst_too_long w refl)
  keeps (way.revokes_again e n y w q m) = rw q o
  keeps (way.grants_again e b y w z q m) =
      rw q (record {
        line = o.line;
        floor = o.floor;
        numbers = record { sequence = o.numbers.sequence; c7 = o.numbers.c7; c20 = omega arith };
      })
  keeps (way.idles_again y i z q m) =
      rw q (record {
        line = o.line;
        floor = o.floor;
        numbers = record { sequence = next_below c.sequence; c7 = omega arith; c20 = o.numbers.c20 };
      })
  keeps (way.idles_on y i q m) =
      rw q (record {
        line = o.line;
        floor = empty_floor h k (Idle false) line refl (o.floor.still (idle_quiet c.phase i));
        numbers = record { sequence = o.numbers.sequence; c7 = o.numbers.c7; c20 = o.numbers.c20 };
      })

-- who leaves
module _ (d : Desk) (t : ℕ) (l : Outcome) (k : HallOk d.hall) (o : CoreOk d.hall d.core) (p : is_present d.hall t ≡ true) where
  abbrev Gone : Core → Type 0
  Gone c = (is_in t (waiting c.line) ≡ false) × (holds c.phase t ≡ false)

  line-left : (es : List Entry) → length es < 16 → is_in t es ≡ false → is_in t (waiting (line_of es)) ≡ false
  line-left es n q = ap (is_in t) (waiting-line_of es (omega arith)) ∙ q

  pub leaver_gone : way.Way d (leaves t) l → Gone l.desk.core
  unfolding waits
  leaver_gone (way.refuses r u v q m) = clash p (v t refl)
  leaver_gone (way.grants_holder s v e b a w n q m) = asks-nobody a
  leaver_gone (way.denies s v n a w u b q m) = asks-nobody a
  leaver_gone (way.gives s v a w i q m) = asks-nobody a
  leaver_gone (way.asks_again s v f g a w n z m) = asks-nobody a
  leaver_gone (way.moves s v f g a w b n u r z m) = asks-nobody a
  leaver_gone (way.places s v f g a w b n r u y z m) = asks-nobody a
  leaver_gone (way.passes s e es a f n w q m) =
      let i : is_in t (e ∷ es) ≡ false = rw w at (o.floor.out t (rw (f t refl) n)) in
      let b : length (e ∷ es) < 16 =
      rw w at (let z : length (waiting d.core.line) < 16 = omega (arith, o.line.list.within, k.limit) in z) in
      rw q (
        line-left (without (only e.seat) (e ∷ es)) (omega (arith, without_le (only e.seat) (e ∷ es)))
            (still_out t (only e.seat) (e ∷ es) i),
        neither_left (eqb e.seat t) (is_in t es) (sym (in_cons t e es) ∙ i),
      )
  leaver_gone (way.frees s a f n w q m) = rw q (none_in t w, refl)
  leaver_gone (way.strikes s a g n w q m) =
      let i : t ≡ s = eqb-true t s g in
      let b = present_below d.hall k t p in
      rw (q, sym i) (
        line-left (without (only t) (waiting d.core.line))
            (omega (arith, without_le (only t) (waiting d.core.line), o.line.list.within, k.limit))
            (gone_out t (waiting d.core.line) b),
        (rw (sym i) at n),
      )
  leaver_gone (way.tells s u y w q m) = no_event_lem y
  leaver_gone (way.talks s e b y w q m) = no_event_lem y
  leaver_gone (way.rests a f q m) = let z = f t refl in rw q (z.1, z.0)
  leaver_gone (way.starts y w q m) = no_event_lem y
  leaver_gone (way.halts s y n q m) = clash y refl
  leaver_gone (way.closes y i q m) = clash y refl
  leaver_gone (way.revokes e b y w q m) = no_event_lem y
  leaver_gone (way.revokes_again e n y w q m) = no_event_lem y
  leaver_gone (way.grants_again e b y w z q m) = no_event_lem y
  leaver_gone (way.idles_again y i z q m) = no_event_lem y
  leaver_gone (way.idles_on y i q m) = no_event_lem y
