-- Of each of the nine things that a step can do: who is placed asked for it; who is struck off has a reason; a floor that ends goes to the
-- head of the line; and the line, the holder and each seat's place afterwards are what the marks and the request make of them. Assumes
-- nothing.
use Rattle.std.proofs.Common.{Option, None}
use Prim.Native.Nat.{ℕ, ◌<◌}
use mathlib.Core.Path.{◌≡◌, refl, ap, sym, ◌∙◌}
use mathlib.Core.Bool.{Bool, true, false, not, ◌&&◌, ◌||◌, or-true}
use mathlib.Core.List.{List, [], ◌∷◌}
use lib.Dec.{eqb}
use lib.ListN.{get_or}
use borrow.Author.Tests.{eqb-true, eq-eqb, ne_eqb}
use Rattle.words.specs.Choice.{when◌then◌else◌, if_yes, if_no, by_test, by_if}
use Rattle.words.specs.Table.{get_d_fill}
use Rattle.words.proofs.Tests.{clash, and_no, or_left, or_right}
use Rattle.line.specs.declared.Entry.{Entry}
use Rattle.line.specs.Line.{waiting, is_in, without, seat_set, no_seats, priority_of, entry_of}
use Rattle.hall.specs.declared.Hall.{Hall}
use Rattle.hall.specs.Seats.{only, receives_only}
use Rattle.steps.specs.declared.Core.{Core}
use Rattle.steps.specs.declared.Given.TheVariants.{OutOfLine}
use Rattle.steps.specs.declared.Marks.{Marks}
use Rattle.giving.specs.Floor.{holds}
use Rattle.request.specs.Request.{is_idle, waits, priority_in}
use Rattle.events.specs.declared.Event.{Event}
use Rattle.events.specs.declared.Event.TheVariants.{Start, Stop, Expiry, Request, Release, Position, Media, Other}
use Rattle.timers.specs.Timers.{is_stopped}
use Rattle.events.specs.declared.Desk.{Desk}
use Rattle.history.specs.Doing.{Doing}
use Rattle.history.specs.Asking.{Becoming, no_event, an_event, becomes, Asking, nobody, asks, asked_by, asked_in, asking, gives_up}
use Rattle.history.specs.Asking.{stops_by}
use Rattle.history.specs.Asking.{stops_in, stops_call}
use Rattle.ways.specs.Ways.{Unmoved, quiet, holder, only_receives, outside, same_priority}
use Rattle.ways.proofs.Phases.{idle_quiet, idle_none}
use Rattle.marks.specs.Marks.{is_seat}
use Rattle.marks.proofs.InLine.{none_in, first_in, behind_in, only_at, gone_out, in_added}
use Rattle.marks.proofs.Did.{Did, rests, gives, places, shifts, strikes, passes, frees, halts, closes}
use Rattle.reach.specs.Sound.{Sound}
use Rattle.reach.proofs.Reach.{fits}
use Rattle.demands.specs.Demands.{moves, comes_into, goes_out, held_after, is_placed, is_struck, is_given_out, is_ended, reason, Place}
use Rattle.demands.specs.Demands.{away}
use Rattle.demands.specs.Demands.{in_line, placed_at, asked_again, place_after, is_moved}
use Rattle.demands.proofs.Places.{place_in, place_out, place_at, place_enter, place_without}

-- nobody in line is receive only
abbrev pub NoneReceivesOnly : Desk → Type 0
NoneReceivesOnly d = (s : ℕ) → is_in s (waiting d.core.line) ≡ true → receives_only d.hall s ≡ false

pub without_none : (es : List Entry) → without no_seats es ≡ es
unfolding without
without_none [] = refl
without_none (e ∷ es) = if_no _ _ _ (get_d_fill false 16 e.seat) ∙ ap (λ (l : List Entry). e ∷ l) (without_none es)

without_all : (seats : List Bool) (es : List Entry) → ((s : ℕ) → is_in s es ≡ true → get_or seats s false ≡ true) → without seats es ≡ []
unfolding without
without_all seats [] f = refl
without_all seats (e ∷ es) f =
    if_yes _ _ _ (f e.seat (first_in e es))
    ∙ without_all seats es (λ s q. f s (behind_in s e es q))

all_struck : (es : List Entry) → ((s : ℕ) → is_in s es ≡ true → s < 16) → without (seat_set es) es ≡ []
unfolding seat_set
all_struck es f = without_all (seat_set es) es (λ s q. in_added s no_seats es refl f ∙ rw q (or-true (get_or no_seats s false)))

-- a request that does not move
module _ (d : Desk) (k : Sound d) (f : NoneReceivesOnly d) (t p : ℕ) where
  abbrev line : List Entry
  line = waiting d.core.line

  not_in : is_in t line ≡ false → moves t p line ≡ false
  unfolding moves
  not_in q = rw q

  pub unmoved : Unmoved d.core d.hall t p → moves t p line ≡ false
  unfolding moves waits priority_in
  unmoved (quiet b) = not_in (none_in t (k.core.floor.still b))
  unmoved (holder h) = not_in (k.core.floor.out t h)
  unmoved (only_receives r) = not_in (by_test (is_in t line) (λ w. clash r (f t w)) (λ w. w))
  unmoved (outside w) = not_in w
  unmoved (same_priority q) = and_no (is_in t line) _ (ap not (eq-eqb (priority_of t line) p q))

-- "a changed priority moves it", by the line and by a seat's place
pub moved_by : (s t p : ℕ) (es : List Entry) → is_moved s (asks t p) (place_in s es) ≡ (eqb t s && moves t p es)
unfolding moves
moved_by s t p es =
    by_test (eqb t s)
    (λ q. let i : t ≡ s = eqb-true t s q in
    by_test (is_in s es) (λ w. rw (place_at s es w, i, eq-eqb s s refl, w)) (λ w. rw (place_out s es w, i, eq-eqb s s refl, w)))
    (λ q. by_test (is_in s es) (λ w. rw (place_at s es w, q)) (λ w. rw (place_out s es w, q)))

-- so asking again leaves a place as it is, but for one who moves
pub asked_still : (s t p : ℕ) (es : List Entry) → (eqb t s && moves t p es) ≡ false →
    asked_again s (asks t p) (place_in s es) ≡ place_in s es
unfolding moves
asked_still s t p es n =
    by_test (is_in s es)
    (λ w. rw (place_at s es w) (by_if (λ (y : Place). y ≡ in_line (priority_of s es)) (eqb t s) (λ q. ap in_line (same q w)) (λ _. refl)))
    (λ w. rw (place_out s es w))
  where
    same : eqb t s ≡ true → is_in s es ≡ true → p ≡ priority_of s es
    same q w =
        let i : t ≡ s = eqb-true t s q in
        by_test (eqb (priority_of s es) p) (λ z. sym (eqb-true (priority_of s es) p z))
        (λ z. clash {b = true} refl (sym (rw (i, eq-eqb s s refl, w, z)) ∙ n))

-- who asks for nothing, or does not move, leaves the line and every place as they are
module _ (es : List Entry) (s : ℕ) where
  pub still_line : (a : Asking) → ((t p : ℕ) → a ≡ asks t p → moves t p es ≡ false) → comes_into a None es ≡ es
  still_line nobody u = refl
  still_line (asks t p) u = if_no _ _ _ (u t p refl)

  pub still_place : (a : Asking) → ((t p : ℕ) → a ≡ asks t p → moves t p es ≡ false) → asked_again s a (place_in s es) ≡ place_in s es
  still_place nobody u = refl
  still_place (asks t p) u = asked_still s t p es (and_no (eqb t s) _ (u t p refl))

  pub still_moved : (a : Asking) → ((t p : ℕ) → a ≡ asks t p → moves t p es ≡ false) → is_moved s a (place_in s es) ≡ false
  still_moved nobody u = refl
  still_moved (asks t p) u = moved_by s t p es ∙ and_no (eqb t s) _ (u t p refl)

pub moves_so : (t p : ℕ) (es : List Entry) → is_in t es ≡ true → (priority_of t es ≡ p → ⊥) → moves t p es ≡ true
unfolding moves
moves_so t p es w n = rw (w, ne_eqb (priority_of t es) p n)

-- who stops the call asks for nothing
stops_by_lem : (h : Hall) (e : Event) → stops_by e ≡ true → asked_by h e ≡ nobody
stops_by_lem h Stop y = refl
stops_by_lem h (Expiry t) y = refl
stops_by_lem h Start y = refl
stops_by_lem h (Request n a) y = clash y refl
stops_by_lem h (Release n) y = refl
stops_by_lem h (Position n) y = refl
stops_by_lem h (Media n) y = refl
stops_by_lem h (Other n) y = refl

stops_in_lem : (h : Hall) (b : Becoming) → stops_in b ≡ true → asked_in h b ≡ nobody
stops_in_lem h no_event y = refl
stops_in_lem h (an_event e) y = stops_by_lem h e y

pub stops-nobody : (h : Hall) (x : Doing) → stops_call x ≡ true → asking h x ≡ nobody
stops-nobody h x y = stops_in_lem h (becomes x) y

-- a seat's place after its marks
module _ (s : ℕ) (a : Asking) (m : Marks) (w : Place) where
  pub place_stays : is_struck s m ≡ false → is_given_out s m ≡ false → is_placed s m ≡ false → place_after s a m w ≡ asked_again s a w
  unfolding place_after when◌then◌else◌
  place_stays p q r = rw (p, q, r)

  place_comes : is_struck s m ≡ false → is_given_out s m ≡ false → is_placed s m ≡ true → place_after s a m w ≡ placed_at a
  unfolding place_after when◌then◌else◌
  place_comes p q r = rw (p, q, r)

  place_goes : (is_struck s m || is_given_out s m) ≡ true → place_after s a m w ≡ away
  unfolding place_after when◌then◌else◌
  place_goes p = rw p

module _ (d : Desk) (x : Doing) (new : Core) (m : Marks) where
  abbrev before : List Entry
  before = waiting d.core.line

  abbrev what : Asking
  what = asking d.hall x

  -- who is placed asked for it, did not wait, and is not receive only
  pub placed_why : Did d x new m → (s : ℕ) → is_placed s m ≡ true → (p : ℕ) × (what ≡ asks s p) × (receives_only d.hall s ≡ false)
  placed_why (rests u l f e) s z = clash z (ap (is_placed s) e)
  placed_why (gives t p a i l f e) s z = clash z (ap (is_placed s) e)
  placed_why (places t p a w r l f e) s z = let y : t ≡ s = eqb-true t s (sym (ap (is_placed s) e) ∙ z) in rw (sym y) (p, a, r)
  placed_why (shifts t p b a w n l f e) s z = clash z (ap (is_placed s) e)
  placed_why (strikes t b a g w l f e) s z = clash z (ap (is_placed s) e)
  placed_why (passes t y es a h b w l f e) s z = clash z (ap (is_placed s) e)
  placed_why (frees t a h w l f e) s z = clash z (ap (is_placed s) e)
  placed_why (halts t y h l f e) s z = clash z (ap (is_placed s) e)
  placed_why (closes y i l f e) s z = clash z (ap (is_placed s) e)

  -- 2: who is struck off has a reason
  pub struck_why : Did d x new m → (s : ℕ) → is_struck s m ≡ true → reason d.hall x s ≡ true
  struck_why (rests u l f e) s z = clash z (ap (is_struck s) e ∙ get_d_fill false 16 s)
  struck_why (gives t p a i l f e) s z = clash z (ap (is_struck s) e ∙ get_d_fill false 16 s)
  struck_why (places t p a w r l f e) s z = clash z (ap (is_struck s) e ∙ get_d_fill false 16 s)
  struck_why (shifts t p b a w n l f e) s z = clash z (ap (is_struck s) e ∙ get_d_fill false 16 s)
  struck_why (strikes t b a g w l f e) s z =
      or_left _ _ (ap (gives_up d.hall x) (sym (eqb-true t s (sym (ap (is_struck s) e ∙ only_at t s b) ∙ z))) ∙ g)
  struck_why (passes t y es a h b w l f e) s z = clash z (ap (is_struck s) e ∙ get_d_fill false 16 s)
  struck_why (frees t a h w l f e) s z = clash z (ap (is_struck s) e ∙ get_d_fill false 16 s)
  struck_why (halts t y h l f e) s z = or_right (gives_up d.hall x s) (stops_call x) y
  struck_why (closes y i l f e) s z = or_right (gives_up d.hall x s) (stops_call x) y

  -- 3: a floor that ends with a line waiting, the call going on, goes to its head
  pub goes_to_head : Did d x new m → (t u : ℕ) → is_ended t m ≡ true → is_in u before ≡ true → is_stopped new.phase ≡ false →
      (e : Entry) × (es : List Entry) × (before ≡ e ∷ es) × (m.given ≡ OutOfLine e.seat)
  goes_to_head (rests v l f e) t u z i n = clash z (ap (is_ended t) e)
  goes_to_head (gives s p a j l f e) t u z i n = clash z (ap (is_ended t) e)
  goes_to_head (places s p a w r l f e) t u z i n = clash z (ap (is_ended t) e)
  goes_to_head (shifts s p b a w o l f e) t u z i n = clash z (ap (is_ended t) e)
  goes_to_head (strikes s b a g w l f e) t u z i n = clash z (ap (is_ended t) e)
  goes_to_head (passes s y es a h b w l f e) t u z i n = (y, es, w, ap (λ (o : Marks). o.given) e)
  goes_to_head (frees s a h w l f e) t u z i n = clash i (none_in u w)
  goes_to_head (halts s y h l f e) t u z i n = clash (ap is_stopped f) n
  goes_to_head (closes y j l f e) t u z i n = clash (ap is_stopped f) n

  -- 5: the holder afterwards
  pub holder-changed : Did d x new m → (b : Option ℕ) → ((s : ℕ) → holds d.core.phase s ≡ is_seat b s) → (s : ℕ) →
      holds new.phase s ≡ is_seat (held_after m.given m.ended b) s
  holder-changed (rests u l f e) b g s = rw e (f s ∙ g s)
  holder-changed (gives t p a i l f e) b g s = rw e (f s)
  holder-changed (places t p a w r l f e) b g s = rw e (f s ∙ g s)
  holder-changed (shifts t p y a w n l f e) b g s = rw e (f s ∙ g s)
  holder-changed (strikes t y a o w l f e) b g s = rw e (f s ∙ g s)
  holder-changed (passes t y es a h o w l f e) b g s = rw e (f s)
  holder-changed (frees t a h w l f e) b g s = rw e (f s)
  holder-changed (halts t y h l f e) b g s = rw (e, f)
  holder-changed (closes y i l f e) b g s = rw (e, f) (sym (sym (g s) ∙ idle_none d.core.phase s i))

  module _ (k : Sound d) (none : NoneReceivesOnly d) where
    still : ((t p : ℕ) → what ≡ asks t p → Unmoved d.core d.hall t p) → (t p : ℕ) → what ≡ asks t p → moves t p before ≡ false
    still u t p q = unmoved d k none t p (u t p q)

    idle_still : is_idle d.core.phase ≡ true → (t p : ℕ) → what ≡ asks t p → moves t p before ≡ false
    idle_still i t p q = unmoved d k none t p (quiet (idle_quiet d.core.phase i))

    -- 5: the line afterwards
    pub line-changed : Did d x new m → comes_into what m.placed (goes_out m.given (without m.struck before)) ≡ waiting new.line
    line-changed (rests u l f e) = rw (e, l, without_none before) (still_line before 0 what (still u))
    line-changed (gives t p a i l f e) = rw (e, l, without_none before) (still_line before 0 what (idle_still i))
    line-changed (places t p a w r l f e) = rw (e, a, l, without_none before)
    line-changed (shifts t p b a w n l f e) = rw (e, a, l, without_none before) (if_yes _ _ _ (moves_so t p before w n))
    line-changed (strikes t b a g w l f e) = rw (e, a, l)
    line-changed (passes t y es a h b w l f e) = rw (e, a, l, without_none before, w)
    line-changed (frees t a h w l f e) = rw (e, a, l, without_none before, w)
    line-changed (halts t y h l f e) = rw (e, stops-nobody d.hall x y, l) (all_struck before (fits d k).seats)
    line-changed (closes y i l f e) = rw (e, stops-nobody d.hall x y, l) (all_struck before (fits d k).seats)

    -- 3: each seat's place afterwards
    unstruck : (s : ℕ) → m.struck ≡ no_seats → is_struck s m ≡ false
    unstruck s q = ap (λ (b : List Bool). get_or b s false) q ∙ get_d_fill false 16 s

    struck_of : {z : Marks} → m ≡ z → m.struck ≡ z.struck
    struck_of e = ap (λ (y : Marks). y.struck) e

    everyone : (s : ℕ) → m.struck ≡ seat_set before → is_struck s m ≡ is_in s before
    unfolding seat_set
    everyone s q =
        ap (λ (b : List Bool). get_or b s false) q ∙ in_added s no_seats before refl (fits d k).seats
        ∙ ap (λ (b : Bool). b || is_in s before) (get_d_fill false 16 s)

    quiet_place : (s : ℕ) → what ≡ nobody → is_struck s m ≡ false → is_given_out s m ≡ false → is_placed s m ≡ false →
        place_after s what m (place_in s before) ≡ place_in s before
    quiet_place s a p q r = place_stays s what m (place_in s before) p q r ∙ ap (λ (y : Asking). asked_again s y (place_in s before)) a

    other_place : (s t p : ℕ) → what ≡ asks t p → eqb t s ≡ false → is_struck s m ≡ false → is_given_out s m ≡ false →
        is_placed s m ≡ false →
        place_after s what m (place_in s before) ≡ place_in s before
    other_place s t p a z i j r =
        place_stays s what m (place_in s before) i j r ∙ ap (λ (y : Asking). asked_again s y (place_in s before)) a
        ∙ asked_still s t p before (ap (λ (b : Bool). b && moves t p before) z)

    emptied : (s : ℕ) → what ≡ nobody → m.struck ≡ seat_set before → is_given_out s m ≡ false → is_placed s m ≡ false →
        waiting new.line ≡ [] →
        place_after s what m (place_in s before) ≡ place_in s (waiting new.line)
    emptied s a q i r l =
        by_test (is_in s before)
        (λ w. place_goes s what m (place_in s before) (or_left _ _ (everyone s q ∙ w)) ∙ sym (place_out s _ (none_in s l)))
        (λ w. quiet_place s a (everyone s q ∙ w) i r ∙ place_out s before w ∙ sym (place_out s _ (none_in s l)))

    pub place_changed : Did d x new m → (s : ℕ) → place_after s what m (place_in s before) ≡ place_in s (waiting new.line)
    place_changed (rests u l f e) s =
        place_stays s what m (place_in s before) (unstruck s (struck_of e)) (ap (is_given_out s) e) (ap (is_placed s) e)
        ∙ still_place before s what (still u) ∙ ap (place_in s) (sym l)
    place_changed (gives t p a i l f e) s =
        place_stays s what m (place_in s before) (unstruck s (struck_of e)) (ap (is_given_out s) e) (ap (is_placed s) e)
        ∙ still_place before s what (idle_still i) ∙ ap (place_in s) (sym l)
    place_changed (places t p a w r l f e) s =
        let n = place_enter s (entry_of t p) before w in
        by_test (eqb t s)
        (λ z. place_comes s what m (place_in s before) (unstruck s (struck_of e)) (ap (is_given_out s) e) (ap (is_placed s) e ∙ z)
        ∙ ap placed_at a ∙ sym (ap (place_in s) l ∙ n ∙ if_yes _ _ _ z))
        (λ z. other_place s t p a z (unstruck s (struck_of e)) (ap (is_given_out s) e) (ap (is_placed s) e ∙ z)
        ∙ sym (ap (place_in s) l ∙ n ∙ if_no _ _ _ z))
    place_changed (shifts t p b a w o l f e) s =
        let y = without (only t) before in
        let n = place_enter s (entry_of t p) y (gone_out t before b) in
        by_test (eqb t s)
        (λ z.
        let i : is_in s before ≡ true = ap (λ (v : ℕ). is_in v before) (sym (eqb-true t s z)) ∙ w in
        place_stays s what m (place_in s before) (unstruck s (struck_of e)) (ap (is_given_out s) e) (ap (is_placed s) e)
        ∙ rw (a, place_at s before i) (if_yes _ _ _ z) ∙ sym (ap (place_in s) l ∙ n ∙ if_yes _ _ _ z))
        (λ z. other_place s t p a z (unstruck s (struck_of e)) (ap (is_given_out s) e) (ap (is_placed s) e)
        ∙ sym (ap (place_in s) l ∙ n ∙ if_no _ _ _ z ∙ place_without s (only t) before ∙ if_no _ _ _ (only_at t s b ∙ z)))
    place_changed (strikes t b a g w l f e) s =
        let i : is_struck s m ≡ eqb t s = ap (is_struck s) e ∙ only_at t s b in
        let n = place_without s (only t) before in
        by_test (eqb t s)
        (λ z. place_goes s what m (place_in s before) (or_left _ _ (i ∙ z))
        ∙ sym (ap (place_in s) l ∙ n ∙ if_yes _ _ _ (only_at t s b ∙ z)))
        (λ z. quiet_place s a (i ∙ z) (ap (is_given_out s) e) (ap (is_placed s) e)
        ∙ sym (ap (place_in s) l ∙ n ∙ if_no _ _ _ (only_at t s b ∙ z)))
    place_changed (passes t y es a h b w l f e) s =
        let n = place_without s (only y.seat) (y ∷ es) in
        by_test (eqb y.seat s)
        (λ z. place_goes s what m (place_in s before) (or_right (is_struck s m) (is_given_out s m) (ap (is_given_out s) e ∙ z))
        ∙ sym (ap (place_in s) l ∙ n ∙ if_yes _ _ _ (only_at y.seat s b ∙ z)))
        (λ z. quiet_place s a (unstruck s (struck_of e)) (ap (is_given_out s) e ∙ z) (ap (is_placed s) e) ∙ ap (place_in s) w
        ∙ sym (ap (place_in s) l ∙ n ∙ if_no _ _ _ (only_at y.seat s b ∙ z)))
    place_changed (frees t a h w l f e) s =
        quiet_place s a (unstruck s (struck_of e)) (ap (is_given_out s) e) (ap (is_placed s) e) ∙ ap (place_in s) (w ∙ sym l)
    place_changed (halts t y h l f e) s = emptied s (stops-nobody d.hall x y) (struck_of e) (ap (is_given_out s) e) (ap (is_placed s) e) l
    place_changed (closes y i l f e) s = emptied s (stops-nobody d.hall x y) (struck_of e) (ap (is_given_out s) e) (ap (is_placed s) e) l
