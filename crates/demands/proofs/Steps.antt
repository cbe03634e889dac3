-- Over any history of any fresh desk: nobody in line is receive only; who is struck off releases, leaves, or the call stops (statement 2);
-- the line and the holder are what the marks and the requests say (5), and so is each seat's place, which statement 3 goes by. Assumes
-- nothing.
use Prim.Native.Nat.{ℕ, ◌<◌}
use mathlib.Core.Path.{◌≡◌, refl, ap, sym, ◌∙◌}
use mathlib.Core.Bool.{true, false}
use mathlib.Core.List.{List, [], ◌∷◌}
use native.Mathlib.Omega.{arith}
use lib.Dec.{eqb}
use lib.ListN.{length}
use lib.Seq.{get_or-set_other}
use Rattle.words.specs.Choice.{by_test, by_if}
use Rattle.words.proofs.Tests.{clash}
use Rattle.line.specs.Line.{waiting, is_in}
use Rattle.hall.specs.declared.Flags.{Flags}
use Rattle.hall.specs.declared.Hall.{Hall}
use Rattle.identities.specs.declared.Names.{Names}
use Rattle.hall.specs.declared.Newcomer.{Newcomer}
use Rattle.joining.specs.declared.Joined.{Joined}
use Rattle.hall.specs.Seats.{no_flags, is_present, receives_only, with_seat, vacated}
use Rattle.joining.specs.Join.{join}
use Rattle.joining.specs.Joins.{Joins, turned_away, sits_down}
use Rattle.joining.proofs.Joins.{every_join}
use Rattle.giving.specs.Floor.{holds}
use Rattle.request.specs.Request.{waits}
use Rattle.events.specs.declared.Outcome.{Outcome}
use Rattle.events.specs.Events.{leave}
use Rattle.events.specs.declared.Desk.{Desk}
use Rattle.history.specs.Doing.{Doing, event, packet, leaves, joins, does, after, Fresh}
use Rattle.history.specs.Asking.{asks, asking}
use Rattle.ways.proofs.Walk.{every_way}
use Rattle.marks.specs.Marks.{is_seat}
use Rattle.marks.proofs.InLine.{none_in}
use Rattle.marks.proofs.Did.{Did, did}
use Rattle.reach.specs.Sound.{Sound}
use Rattle.reach.proofs.InLine.{present_below}
use Rattle.reach.proofs.Hall.{stored, hall_ok}
use Rattle.reach.proofs.Reach.{fits, marks_counted}
use Rattle.demands.specs.Demands.{History, desk_after, log, is_placed, is_struck, is_given_out, changed, line_from, holder_from, place_of}
use Rattle.demands.specs.Demands.{StruckForAReason, WorkedOut}
use Rattle.demands.proofs.Counts.{fresh-line, fresh-holder, sound_after, comes_by}
use Rattle.demands.proofs.Places.{place_in, place_out}
use Rattle.demands.proofs.OfEach.{NoneReceivesOnly, placed_why, struck_why, line-changed, holder-changed, place_changed}

-- nobody in line is receive only: who sits where changes only when somebody joins or leaves
vacated-not-only : (h : Hall) (t s : ℕ) → t < length h.flags → receives_only h s ≡ false → receives_only (vacated h t) s ≡ false
unfolding with_seat
vacated-not-only h t s b v =
    ap (λ (f : Flags). f.receive_only) (stored h.flags t s no_flags no_flags b)
    ∙ by_if (λ (f : Flags). f.receive_only ≡ false) (eqb t s) (λ _. refl) (λ _. v)

joined-not-only : (h : Hall) (ns : Names) (o : List ℕ) (n : Newcomer) (s : ℕ) → is_present h s ≡ true → receives_only h s ≡ false →
    (j : Joined) → Joins h ns o n j → receives_only j.hall s ≡ false
unfolding with_seat
joined-not-only h ns o n s p v j (turned_away r q) = rw q v
joined-not-only h ns o n s p v j (sits_down t a f z b q) =
    rw q (ap (λ (f : Flags). f.receive_only) (get_or-set_other h.flags t s n.flags no_flags (λ e. clash p (ap (is_present h) e ∙ z)))
    ∙ v)

hall_not_only : (d : Desk) (x : Doing) → Sound d → (s : ℕ) → is_present d.hall s ≡ true → receives_only d.hall s ≡ false →
    receives_only (does d x).desk.hall s ≡ false
unfolding does leave
hall_not_only d (event e) k s p v = v
hall_not_only d (packet o) k s p v = v
hall_not_only d (leaves t) k s p v =
    by_if (λ (l : Outcome). receives_only l.desk.hall s ≡ false) (is_present d.hall t)
    (λ q. vacated-not-only d.hall t s
    (let b = present_below d.hall (hall_ok d.hall d.names k.seats) t q in omega (arith, k.seats.columns.3)) v)
    (λ _. v)
hall_not_only d (joins o n) k s p v =
    joined-not-only d.hall d.names o n s p v (join d.hall d.names o n) (every_join d.hall d.names o n)

asker_not_only : (d : Desk) (x : Doing) (s p : ℕ) → asking d.hall x ≡ asks s p → receives_only d.hall s ≡ false →
    receives_only (does d x).desk.hall s ≡ false
unfolding does
asker_not_only d (event e) s p q v = v
asker_not_only d (packet o) s p q v = v
asker_not_only d (leaves t) s p q v = let z : ◌≡◌ {A = ℕ} 0 1 = cc in absurd (omega arith)
asker_not_only d (joins o n) s p q v = let z : ◌≡◌ {A = ℕ} 0 1 = cc in absurd (omega arith)

-- what each step of a sound desk does
pub step-does : (d : Desk) (x : Doing) → Sound d → Did d x (does d x).desk.core (does d x).report.marks
step-does d x k = did d x (does d x) (fits d k) (every_way d x)

none_kept : (d : Desk) (x : Doing) → Sound d → NoneReceivesOnly d → NoneReceivesOnly (after d x)
unfolding waits
none_kept d x k f s i =
    by_test (is_in s (waiting d.core.line))
    (λ w. hall_not_only d x k s (k.core.line.list.here s w) (f s w))
    (λ w.
    let m = (does d x).report.marks in
    let z =
    placed_why d x (does d x).desk.core m (step-does d x k) s
    (comes_by (waits d.core s) (is_placed s m) (waits (does d x).desk.core s) (is_struck s m) (is_given_out s m)
    (marks_counted d x s k).0 w i) in
    asker_not_only d x s z.0 z.1 z.2)

pub none_after : (start : Desk) → Fresh start → (past : History) → NoneReceivesOnly (desk_after does start past)
none_after start f [] = λ s i. clash i (none_in s (fresh-line start f))
none_after start f (x ∷ past) = none_kept (desk_after does start past) x (sound_after start f past) (none_after start f past)

-- 2
pub struck_for_a_reason : StruckForAReason does
struck_for_a_reason start f past now s z =
    let d = desk_after does start past in
    struck_why d now (does d now).desk.core (does d now).report.marks (step-does d now (sound_after start f past)) s z

-- 5
pub line_worked_out : (start : Desk) → Fresh start → (past : History) →
    waiting (desk_after does start past).core.line ≡ line_from (log does start past)
unfolding changed
line_worked_out start f [] = fresh-line start f
line_worked_out start f (x ∷ past) =
    let d = desk_after does start past in
    let k = sound_after start f past in
    rw (sym (line_worked_out start f past))
    (sym (line-changed d x (does d x).desk.core (does d x).report.marks k (none_after start f past) (step-does d x k)))

holder_worked_out : (start : Desk) → Fresh start → (past : History) (s : ℕ) →
    holds (desk_after does start past).core.phase s ≡ is_seat (holder_from (log does start past)) s
holder_worked_out start f [] s = fresh-holder start f s
holder_worked_out start f (x ∷ past) s =
    let d = desk_after does start past in
    holder-changed d x (does d x).desk.core (does d x).report.marks (step-does d x (sound_after start f past))
    (holder_from (log does start past)) (holder_worked_out start f past) s

pub worked_out : WorkedOut does
worked_out start f past = (line_worked_out start f past, holder_worked_out start f past)

-- 3: each seat's place
pub place_worked_out : (start : Desk) → Fresh start → (past : History) (s : ℕ) →
    place_of s (log does start past) ≡ place_in s (waiting (desk_after does start past).core.line)
place_worked_out start f [] s = sym (place_out s _ (none_in s (fresh-line start f)))
place_worked_out start f (x ∷ past) s =
    let d = desk_after does start past in
    let k = sound_after start f past in
    rw (place_worked_out start f past s)
    (place_changed d x (does d x).desk.core (does d x).report.marks k (none_after start f past) (step-does d x k) s)
