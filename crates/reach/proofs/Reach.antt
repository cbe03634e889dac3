-- A fresh desk is sound, and whatever happens keeps it so. Assumes nothing.
use Prim.Native.Nat.{ℕ, ◌<◌}
use mathlib.Core.Path.{◌≡◌, refl, ap, sym, ◌∙◌}
use mathlib.Core.Bool.{true, false}
use mathlib.Core.List.{List, [], ◌∷◌}
use native.Mathlib.Omega.{arith}
use lib.Dec.{eqb}
use lib.ListN.{get_or}
use borrow.Author.Tests.{eqb-true, eq-eqb, ne_eqb}
use Rattle.words.specs.Choice.{if_yes, if_no, by_test, by_if}
use Rattle.words.specs.Table.{get_d_fill}
use Rattle.words.proofs.Tests.{clash}
use Rattle.line.specs.Line.{waiting, line_of, is_in}
use Rattle.line.proofs.Laws.{waiting-line_of}
use Rattle.hall.specs.declared.Settings.{Settings}
use Rattle.hall.specs.declared.Hall.{Hall}
use Rattle.identities.specs.declared.Names.{Names}
use Rattle.hall.specs.declared.Newcomer.{Newcomer}
use Rattle.joining.specs.declared.Joined.{Joined}
use Rattle.std.proofs.Common.{None, is_some}
use Rattle.hall.specs.Seats.{no_flags, in_range, empty_hall, is_present, has_ssrc, seat_of, with_seat, vacated, no_one}
use Rattle.identities.specs.Identity.{octets_of, name_of, no_name, no_names, name_at, with_name, same, has_name, seat_named}
use Rattle.joining.specs.Join.{ssrc_taken, join}
use Rattle.joining.specs.Joins.{Passes, Joins, turned_away, sits_down}
use Rattle.joining.proofs.Joins.{every_join}
use Rattle.hall.proofs.Laws.{not_at, none_holds}
use Rattle.identities.proofs.Naming.{allowed_short, name-octets, no_name_whole}
use Rattle.identities.proofs.Same.{same_sym}
use Rattle.steps.specs.declared.Core.{Core}
use Rattle.giving.specs.Floor.{holds}
use Rattle.events.specs.declared.Outcome.{Outcome}
use Rattle.events.specs.Events.{fresh, leave}
use Rattle.marks.specs.Marks.{Fit}
use Rattle.marks.proofs.Counts.{every_step_counts}
use Rattle.events.specs.declared.Desk.{Desk}
use Rattle.history.specs.Doing.{Doing, event, packet, leaves, joins, does, after, after_all, just_made, and_joined}
use Rattle.ways.specs.Ways.{Way}
use Rattle.ways.proofs.Walk.{every_way}
use Rattle.reach.specs.Sound.{CoreOk, SeatsOk, Sound}
use Rattle.reach.specs.Reach.{SoundFresh, SoundKept, SoundReached, MarksCounted}
use Rattle.reach.proofs.InLine.{none_ok, line_ok, present_below}
use Rattle.reach.proofs.Steps.{keeps, leaver_gone}
use Rattle.reach.proofs.Hall.{hall_ok, seats_kept, present_there, present_else}

module _ (g : Settings) (r : in_range g ≡ true) where
  nobody_there : (s : ℕ) → is_present (empty_hall g) s ≡ false
  unfolding empty_hall
  nobody_there s = get_d_fill false 16 s

  no_name_there : (s : ℕ) → name_at no_names s ≡ no_name
  unfolding no_names
  no_name_there s = get_d_fill no_name 16 s

  fresh_seats : SeatsOk (empty_hall g) no_names
  unfolding empty_hall no_names
  fresh_seats =
      record {
        settings = r;
        columns = (refl, refl, refl, refl, refl);
        ssrcs = λ s t p q e. clash p (nobody_there s);
        desk = λ s p e. clash p (nobody_there s);
        lengths = λ s p. clash p (nobody_there s);
        behind = λ s. rw (no_name_there s) no_name_whole;
        identities = λ s t p q e. clash p (nobody_there s);
        free = λ s p. (get_d_fill 0 16 s, get_d_fill 0 16 s, get_d_fill no_flags 16 s, no_name_there s);
      }

  fresh_core : CoreOk (empty_hall g) fresh
  unfolding fresh
  fresh_core =
      let k = hall_ok (empty_hall g) no_names fresh_seats in
      let w : waiting (line_of []) ≡ [] = waiting-line_of [] (omega arith) in
      record {
        line = line_ok (empty_hall g) k [] (none_ok (empty_hall g));
        floor = record { out = λ s q. clash q refl; still = λ _. w; holder = λ s q. clash q refl; cause = refl };
        numbers = record { sequence = omega arith; c7 = omega arith; c20 = omega arith };
      }

-- leave
module _ (h : Hall) (ns : Names) (k : SeatsOk h ns) (t : ℕ) (p : is_present h t ≡ true) where
  below : t < 16
  below = present_below h (hall_ok h ns k) t p

  left_seats : SeatsOk (vacated h t) (with_name ns t no_name)
  left_seats = seats_kept h ns k t below false no_one no_name (λ q. clash q refl) (λ _. (refl, refl)) no_name_whole

  stays_there : (s : ℕ) → (s ≡ t → ⊥) → is_present h s ≡ true → is_present (vacated h t) s ≡ true
  stays_there s n q = present_else h ns k t below false no_one no_name s (ne_eqb t s (λ e. n (sym e))) ∙ q

  same-settings : (vacated h t).settings ≡ h.settings
  unfolding with_seat
  same-settings = refl

  core_left : (c : Core) → CoreOk h c → is_in t (waiting c.line) ≡ false → holds c.phase t ≡ false → CoreOk (vacated h t) c
  core_left c o n f =
      record {
        line = record {
          list = record {
            sorted = o.line.list.sorted;
            once = o.line.list.once;
            within = rw same-settings o.line.list.within;
            here = λ s q. stays_there s (λ e. clash q (ap (λ (x : ℕ). is_in x (waiting c.line)) e ∙ n)) (o.line.list.here s q);
          };
          behind = o.line.behind;
        };
        floor = record {
          out = o.floor.out;
          still = o.floor.still;
          holder = λ s q. stays_there s (λ e. clash q (ap (λ (x : ℕ). holds c.phase x) e ∙ f)) (o.floor.holder s q);
          cause = o.floor.cause;
        };
        numbers =
            record { sequence = o.numbers.sequence; c7 = rw same-settings o.numbers.c7; c20 = rw same-settings o.numbers.c20 };
      }

-- join
module _ (h : Hall) (ns : Names) (k : SeatsOk h ns) (c : Core) (v : CoreOk h c) (o : List ℕ) (n : Newcomer) where
  sixteen : (s : ℕ) → is_present h s ≡ true → s < 16
  sixteen s q = present_below h (hall_ok h ns k) s q

  new_ssrc : ssrc_taken h n.ssrc ≡ false → (s : ℕ) → is_present h s ≡ true → get_or h.ssrcs s 0 ≡ n.ssrc → ⊥
  unfolding ssrc_taken seat_of
  new_ssrc q s p e =
      by_test (eqb n.ssrc h.settings.ssrc)
      (λ x. clash (if_yes _ true (is_some (seat_of h n.ssrc)) x) q)
      (λ x.
      let z : seat_of h n.ssrc ≡ None = not_at (seat_of h n.ssrc) (sym (if_no _ true (is_some (seat_of h n.ssrc)) x) ∙ q) in
      let y : has_ssrc h n.ssrc s ≡ true = rw (p, eq-eqb (get_or h.ssrcs s 0) n.ssrc e) in
      clash y (none_holds (has_ssrc h n.ssrc) 16 0 s z (omega arith) (sixteen s p)))

  new_desk : ssrc_taken h n.ssrc ≡ false → n.ssrc ≡ h.settings.ssrc → ⊥
  unfolding ssrc_taken
  new_desk q e = clash (if_yes _ true (is_some (seat_of h n.ssrc)) (eq-eqb n.ssrc h.settings.ssrc e)) q

  new_name : is_some (seat_named h ns o) ≡ false → (s : ℕ) → is_present h s ≡ true → same (octets_of (name_at ns s)) o ≡ true → ⊥
  unfolding seat_named
  new_name q s p e =
      let y : has_name h ns o s ≡ true = rw (p, e) in
      clash y (none_holds (has_name h ns o) 16 0 s (not_at (seat_named h ns o) q) (omega arith) (sixteen s p))

  same-settings-joined : (t : ℕ) → (with_seat h t true n).settings ≡ h.settings
  unfolding with_seat
  same-settings-joined t = refl

  core_joined : (t : ℕ) → t < 16 → CoreOk (with_seat h t true n) c
  core_joined t b =
      record {
        line = record {
          list = record {
            sorted = v.line.list.sorted;
            once = v.line.list.once;
            within = rw (same-settings-joined t) v.line.list.within;
            here = λ s q. grows s (v.line.list.here s q);
          };
          behind = v.line.behind;
        };
        floor =
            record {
              out = v.floor.out;
              still = v.floor.still;
              holder = λ s q. grows s (v.floor.holder s q);
              cause = v.floor.cause;
            };
        numbers =
            record {
              sequence = v.numbers.sequence;
              c7 = rw (same-settings-joined t) v.numbers.c7;
              c20 = rw (same-settings-joined t) v.numbers.c20;
            };
      }
    where
      grows : (s : ℕ) → is_present h s ≡ true → is_present (with_seat h t true n) s ≡ true
      grows s p =
          by_test (eqb t s)
          (λ x. ap (is_present (with_seat h t true n)) (sym (eqb-true t s x)) ∙ present_there h ns k t b true n no_name)
          (λ x. present_else h ns k t b true n no_name s x ∙ p)

  takes : Passes h ns o n → (t : ℕ) → t < 16 → SeatsOk (with_seat h t true n) (with_name ns t (name_of o))
  takes a t b =
      let w : octets_of (name_of o) ≡ o = name-octets o (allowed_short o a.long) in
      seats_kept h ns k t b true n (name_of o)
      (λ _. record {
        ssrc = new_ssrc a.unheard;
        desk = new_desk a.unheard;
        length = rw w a.long;
        before = λ s p e. new_name a.unnamed s p (rw w at e);
        after = λ s p e. new_name a.unnamed s p (same_sym (octets_of (name_at ns s)) o ∙ (rw w at e));
      })
      (λ z. clash refl z) (ap name_of (sym w))

  join_kept : (j : Joined) → Joins h ns o n j → SeatsOk j.hall j.names × CoreOk j.hall c
  join_kept j (turned_away r q) = rw q (k, v)
  join_kept j (sits_down t a f p b q) = rw q (takes a t b, core_joined t b)

-- whatever happens to a sound desk leaves it sound
pub sound_kept : SoundKept
unfolding does leave
sound_kept d (event e) k =
    record {
      seats = k.seats;
      core = keeps d (event e) (does d (event e)) (hall_ok d.hall d.names k.seats) k.core (every_way d (event e));
    }
sound_kept d (packet o) k =
    record {
      seats = k.seats;
      core = keeps d (packet o) (does d (packet o)) (hall_ok d.hall d.names k.seats) k.core (every_way d (packet o));
    }
sound_kept d (leaves t) k =
    let o = hall_ok d.hall d.names k.seats in
    by_if (λ (l : Outcome). Way d (leaves t) l → Sound l.desk) (is_present d.hall t)
    (λ p w.
    let z = leaver_gone d t _ o k.core p w in
    record {
      seats = left_seats d.hall d.names k.seats t p;
      core = core_left d.hall d.names k.seats t p _ (keeps d (leaves t) _ o k.core w) z.0 z.1;
    })
    (λ _ _. record { seats = k.seats; core = k.core })
    (every_way d (leaves t))
sound_kept d (joins o n) k =
    let j =
    join_kept d.hall d.names k.seats d.core k.core o n (join d.hall d.names o n)
    (every_join d.hall d.names o n) in
    record { seats = j.0; core = j.1 }

-- a fresh desk is sound, and so is every desk that can be reached from it
pub sound_fresh : SoundFresh
sound_fresh d (just_made g r) = record { seats = fresh_seats g r; core = fresh_core g r }
sound_fresh d (and_joined e o n k) = sound_kept e (joins o n) (sound_fresh e k)

pub sound_reached : SoundReached
sound_reached d f xs = go d xs (sound_fresh d f)
  where
    go : (d : Desk) (xs : List Doing) → Sound d → Sound (after_all d xs)
    go d [] k = k
    go d (x ∷ xs) k = go (after d x) xs (sound_kept d x k)

-- and at every such desk, whatever happens, the marks are what the line and the holder did
pub fits : (d : Desk) → Sound d → Fit d.core d.hall
fits d k =
    let h = hall_ok d.hall d.names k.seats in
    record {
      room = omega (arith, k.core.line.list.within, h.limit);
      limit = h.limit;
      seats = λ t q. present_below d.hall h t (k.core.line.list.here t q);
    }

pub marks_counted : MarksCounted
marks_counted d x s k = every_step_counts d x s (fits d k)
