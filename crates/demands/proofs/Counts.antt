-- Over any history of any fresh desk: every desk that it leads to is sound; each seat was placed as often as it was given the floor out of
-- the line, struck off, or waits (statement 1), and given the floor as often as it ended or holds it (4); nobody enters the line, leaves
-- it, gets the floor or loses it without its mark (the first half of 5). Assumes nothing.
use Prim.Native.Nat.{ℕ, ◌+◌}
use mathlib.Core.Path.{◌≡◌, refl, ap, sym, ◌∙◌}
use mathlib.Core.Bool.{Bool, true, false, ◌||◌}
use mathlib.Core.List.{List, [], ◌∷◌}
use native.Mathlib.Omega.{arith}
use lib.Dec.{eqb}
use borrow.Author.Tests.{eqb-true}
use Rattle.words.specs.Choice.{by_test, one}
use Rattle.line.specs.declared.Entry.{Entry}
use Rattle.line.specs.Line.{waiting, is_in}
use Rattle.steps.specs.declared.Core.{Core}
use Rattle.giving.specs.Floor.{holds}
use Rattle.request.specs.Request.{waits}
use Rattle.events.specs.Events.{fresh}
use Rattle.events.specs.declared.Desk.{Desk}
use Rattle.history.specs.Doing.{Fresh, just_made, and_joined, does}
use Rattle.marks.proofs.InLine.{in_nil, none_in, in_cons}
use Rattle.ways.proofs.Phases.{holds-one}
use Rattle.reach.specs.Sound.{Sound, Once}
use Rattle.reach.proofs.Reach.{sound_fresh, sound_kept, marks_counted}
use Rattle.line.proofs.Laws.{waiting-line_of}
use Rattle.demands.specs.Demands.{History, desk_after, log, times, standing, is_placed, is_struck, is_given_out, is_given_any, is_ended}
use Rattle.demands.specs.Demands.{NobodyDropsOut, GivenAndEnded, NothingUnseen}

-- every desk that a history leads to is sound
pub sound_after : (start : Desk) → Fresh start → (past : History) → Sound (desk_after does start past)
sound_after start f [] = sound_fresh start f
sound_after start f (x ∷ past) = sound_kept (desk_after does start past) x (sound_after start f past)

-- 1
-- nothing has happened to a fresh core
pub fresh_core : (d : Desk) → Fresh d → d.core ≡ fresh
unfolding does
fresh_core d (just_made g r) = refl
fresh_core d (and_joined e o n k) = fresh_core e k

pub fresh-line : (d : Desk) → Fresh d → waiting d.core.line ≡ []
unfolding fresh
fresh-line d k = ap (λ (c : Core). waiting c.line) (fresh_core d k) ∙ waiting-line_of [] (omega arith)

pub fresh-holder : (d : Desk) → Fresh d → (s : ℕ) → holds d.core.phase s ≡ false
unfolding fresh
fresh-holder d k s = ap (λ (c : Core). holds c.phase s) (fresh_core d k)

line_account : (start : Desk) → Fresh start → (past : History) (s : ℕ) →
    times (is_placed s) (log does start past)
    ≡ times (is_given_out s) (log does start past) + times (is_struck s) (log does start past)
    + one (waits (desk_after does start past).core s)
unfolding waits
line_account start f [] s = rw (none_in s (fresh-line start f))
line_account start f (x ∷ past) s =
    omega (arith, line_account start f past s, (marks_counted (desk_after does start past) x s (sound_after start f past)).0)

stands_once : (s : ℕ) (es : List Entry) → Once es → standing s es ≡ one (is_in s es)
stands_once s [] k = rw (in_nil s)
stands_once s (e ∷ es) k =
    rw (stands_once s es k.1, in_cons s e es)
    (by_test (eqb e.seat s)
    (λ q. rw (q, sym (eqb-true e.seat s q), k.0))
    (λ q. rw q (omega arith)))

pub nobody_drops_out : NobodyDropsOut does
unfolding waits
nobody_drops_out start f past s = (line_account start f past s, stands_once s _ (sound_after start f past).core.line.list.once)

-- 4
floor_account : (start : Desk) → Fresh start → (past : History) (s : ℕ) →
    times (is_given_any s) (log does start past)
    ≡ times (is_ended s) (log does start past) + one (holds (desk_after does start past).core.phase s)
floor_account start f [] s = rw (fresh-holder start f s)
floor_account start f (x ∷ past) s =
    omega (arith, floor_account start f past s, (marks_counted (desk_after does start past) x s (sound_after start f past)).1)

pub given_and_ended : GivenAndEnded does
given_and_ended start f past s =
    (floor_account start f past s, λ t a b. eqb-true s t (sym (holds-one (desk_after does start past).core.phase s t a) ∙ b))

-- 5, first half: a seat's account in one step leaves no change without a mark
pub comes_by : (old mark new a b : Bool) → one old + one mark ≡ one new + one a + one b → old ≡ false → new ≡ true → mark ≡ true
comes_by old true new a b q o n = refl
comes_by old false new a b q o n = absurd (let z = rw (o, n) at q in omega arith)

goes_by : (old mark new a b : Bool) → one old + one mark ≡ one new + one a + one b → old ≡ true → new ≡ false → (a || b) ≡ true
goes_by old mark new true b q o n = refl
goes_by old mark new false true q o n = refl
goes_by old mark new false false q o n = absurd (let z = rw (o, n) at q in omega arith)

gets_by : (old mark new a : Bool) → one old + one mark ≡ one new + one a → old ≡ false → new ≡ true → mark ≡ true
gets_by old true new a q o n = refl
gets_by old false new a q o n = absurd (let z = rw (o, n) at q in omega arith)

loses_by : (old mark new a : Bool) → one old + one mark ≡ one new + one a → old ≡ true → new ≡ false → a ≡ true
loses_by old mark new true q o n = refl
loses_by old mark new false q o n = absurd (let z = rw (o, n) at q in omega arith)

pub nothing_unseen : NothingUnseen does
nothing_unseen start f past now s =
    let k = marks_counted (desk_after does start past) now s (sound_after start f past) in
    let new = does (desk_after does start past) now in
    let m = new.report.marks in
    let w = waits (desk_after does start past).core s in
    let v = waits new.desk.core s in
    let h = holds (desk_after does start past).core.phase s in
    let o = holds new.desk.core.phase s in
    record {
      enters = comes_by w (is_placed s m) v (is_struck s m) (is_given_out s m) k.0;
      goes = goes_by w (is_placed s m) v (is_struck s m) (is_given_out s m) k.0;
      gets = gets_by h (is_given_any s m) o (is_ended s m) k.1;
      loses = loses_by h (is_given_any s m) o (is_ended s m) k.1;
    }
