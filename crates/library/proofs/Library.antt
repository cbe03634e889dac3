-- Any run of calls is a history of what was done to a fresh desk, and its log is that history's log; so the five statements of the rules'
-- desk hold of it (specs/Library). Assumes nothing.
use Prim.Native.Nat.{ℕ, suc}
use mathlib.Core.Path.{◌≡◌, refl, ap, sym, subst, ◌∙◌}
use mathlib.Core.Bool.{true, false}
use mathlib.Core.List.{List, [], ◌∷◌, ◌++◌}
use lib.IntN.{pos}
use lib.ListN.{take}
use Rattle.report_octets.specs.Places.{report_size}
use Rattle.words.specs.Choice.{by_if}
use Rattle.words.specs.Table.{get_d_fill}
use Rattle.words.proofs.Tests.{clash}
use Rattle.signed.specs.Signed.{is_done}
use Rattle.line.specs.Line.{waiting}
use Rattle.steps.specs.declared.Given.TheVariants.{OutOfLine}
use Rattle.giving.specs.Floor.{holds}
use Rattle.request.specs.Request.{waits}
use Rattle.timers.specs.Timers.{is_stopped}
use Rattle.events.specs.declared.Desk.{Desk}
use Rattle.history.specs.Doing.{Doing, does, made as made_with, after, after_all, just_made}
use Rattle.marks.specs.Marks.{is_seat}
use Rattle.demands.specs.Demands.{Row, desk_after, row_by, log, is_struck, is_ended, place_of, in_line, ComesFirst}
use Rattle.demands.proofs.Counts.{nobody_drops_out, given_and_ended, nothing_unseen}
use Rattle.demands.proofs.Steps.{struck_for_a_reason, worked_out}
use Rattle.demands.proofs.Order.{goes_to_the_first}
use Rattle.desk_octets.specs.Form.{hall_at}
use Rattle.floor.specs.Promises.{PhasePromise}
use Rattle.floor_laws.specs.Kept.{desk_at, Holds, Call, Promised, ActFits, meant, doings, joins_on}
use Rattle.floor_laws.proofs.Desks.{in_range_lem}
use Rattle.floor_laws.proofs.Refusals.{not_made as not-made, not-loaded}
use Rattle.floor_laws.proofs.Steps.{holds_as, step_in_form}
use Rattle.floor_laws.proofs.Made.{made_in_form}
use Rattle.floor_laws.proofs.Loaded.{loaded_in_form}
use Rattle.library.specs.Library.{report_by, rows_of, rows_by, made, loaded, called, not_made, not_loaded, Reached, EveryRunReached}
use Rattle.library.specs.Library.{RoomEnough, Look, line, holder, marks_of, reason_in, NobodyDropsOut, StruckForAReason, GoesToTheFirst}
use Rattle.library.specs.Library.{GivenAndEnded, Marked, NothingUnseen, WorkedOut, NobodyDropsOutUnseen}
use Rattle.library.proofs.Looks.{enough, line-seen, holder-seen, phase_seen}
use Rattle.library.proofs.Agrees.{Agrees, agrees}
use Rattle.steps.specs.declared.Report.{Report}
use Rattle.loading.specs.Loading.{settings_on}

-- A RUN IS A HISTORY

-- one call is one thing done, or none
data Short : List Doing → Type 0 where
  none : Short []
  single : (y : Doing) → Short (y ∷ [])

done_short : (x : Call) → Short (doings x)
done_short x = by_if Short (is_done x.answer) (λ _. single (meant x.act)) (λ _. none)

-- what comes next of a desk and its log, if this was done and reported
module _ (d : List ℕ) (rows : List Row) (k : Reached d rows) (d' : List ℕ) (r : Report) where
  abbrev now : Desk
  now = desk_after does k.start k.past

  row_same : (y : Doing) → r ≡ (does (desk_at d) y).report →
      rows_of (hall_at d) r (y ∷ []) ++ rows ≡ row_by does now y ∷ log does k.start k.past
  row_same y t = rw (t, k.same) (ap (λ (e : Desk). row_by does e y ∷ log does k.start k.past) k.holds.stands)

  goes_on : (ys : List Doing) → Short ys → Agrees (desk_at d) r ys → Holds d' (after_all (desk_at d) ys) →
      Reached d' (rows_of (hall_at d) r ys ++ rows)
  unfolding does
  goes_on ys none t h =
      record {
        start = k.start;
        is_fresh = k.is_fresh;
        past = k.past;
        holds = holds_as d' (desk_at d) now k.holds.stands h;
        same = k.same;
      }
  goes_on ys (single y) t h =
      record {
        start = k.start;
        is_fresh = k.is_fresh;
        past = y ∷ k.past;
        holds = holds_as d' (after (desk_at d) y) (after now y) (ap (λ (e : Desk). after e y) k.holds.stands) h;
        same = row_same y t.0;
      }

calls_on : (d : List ℕ) (rows : List Row) → Reached d rows → (x : Call) → Promised d x → ActFits x.act →
    Reached x.desk (rows_by d x ++ rows)
calls_on d rows k x p w =
    goes_on d rows k x.desk (report_by x.act (take report_size x.report)) (doings x) (done_short x)
    (agrees d k.holds.octets k.holds.in_form x p) (step_in_form d x p k.holds.octets k.holds.in_form w)

pub reached : EveryRunReached
reached d rows (made room g n room' p z b) =
    let h = made_in_form room g n room' p z b in
    record { start = made_with g; is_fresh = just_made g (in_range_lem g h.0); past = []; holds = h.1; same = refl }
reached d rows (loaded room sheet n room' p z o) =
    let l = loaded_in_form room sheet n room' p z o in
    record {
      start = after_all (made_with (settings_on sheet)) (joins_on sheet);
      is_fresh = l.is_fresh;
      past = [];
      holds = l.holds;
      same = refl;
    }
reached d rows (called {d = c} {rows = rs} r x p w) = calls_on c rs (reached c rs r) x p w
reached d rows (not_made {d = c} {rows = rs} r g n d' p z) =
    subst (λ (s : List ℕ). Reached s rs) (sym (not-made c g n d' p z)) (reached c rs r)
reached d rows (not_loaded {d = c} {rows = rs} r sheet n d' p z) =
    subst (λ (s : List ℕ). Reached s rs) (sym (not-loaded c sheet n d' p z)) (reached c rs r)

-- THE FIVE STATEMENTS

module _ (d : List ℕ) (rows : List Row) (k : Reached d rows) where
  abbrev desk : Desk
  desk = desk_after does k.start k.past

  its_line : (l : Look d) → line l ≡ waiting desk.core.line
  its_line l = line-seen d k.holds.in_form l ∙ ap (λ (e : Desk). waiting e.core.line) k.holds.stands

  its_holder : (l : Look d) (s : ℕ) → is_seat (holder l) s ≡ holds desk.core.phase s
  its_holder l s =
      holder-seen d k.holds.in_form l s ∙ ap (λ (e : Desk). holds e.core.phase s) k.holds.stands

pub room_enough : RoomEnough
room_enough d rows r room a room' p b = let k = reached d rows r in enough d room a room' k.holds.octets k.holds.in_form p b

nobody_dropped : NobodyDropsOut
unfolding waits
nobody_dropped d rows r seen s =
    let k = reached d rows r in rw (k.same, its_line d rows k seen) (nobody_drops_out k.start k.is_fresh k.past s)

given_ended : GivenAndEnded
given_ended d rows r seen s =
    let k = reached d rows r in rw (k.same, its_holder d rows k seen s) (given_and_ended k.start k.is_fresh k.past s).0

worked : WorkedOut
worked d rows r seen =
    let k = reached d rows r in
    let w = worked_out k.start k.is_fresh k.past in
    (rw k.same (its_line d rows k seen ∙ w.0), λ s. rw k.same (its_holder d rows k seen s ∙ w.1 s))

-- one call more
module _ (d : List ℕ) (rows : List Row) (k : Reached d rows) (d' : List ℕ) (r : Report) where
  reported : (y : Doing) → Agrees (desk_at d) r (y ∷ []) → r ≡ (does (now d rows k d' r) y).report
  unfolding does
  reported y t = t.0 ∙ ap (λ (e : Desk). (does e y).report) k.holds.stands

  stands_so : (y : Doing) → Holds d' (after_all (desk_at d) (y ∷ [])) → desk_at d' ≡ (does (now d rows k d' r) y).desk
  unfolding does
  stands_so y h = h.stands ∙ ap (λ (e : Desk). after e y) k.holds.stands

  struck_so : (ys : List Doing) → Short ys → Agrees (desk_at d) r ys → (s : ℕ) → is_struck s (marks_of (rows_of (hall_at d) r ys)) ≡ true →
      reason_in (hall_at d) ys s ≡ true
  struck_so ys none t s q = clash q (get_d_fill false 16 s)
  struck_so ys (single y) t s q =
      let m : is_struck s (does (now d rows k d' r) y).report.marks ≡ true = rw (reported y t) at q in
      subst (λ (e : Desk). reason_in e.hall (y ∷ []) s ≡ true) (sym k.holds.stands)
      (struck_for_a_reason k.start k.is_fresh k.past y s m)

  first_so : (ys : List Doing) → Short ys → Agrees (desk_at d) r ys → Holds d' (after_all (desk_at d) ys) → (t u p j : ℕ) →
      is_ended t (marks_of (rows_of (hall_at d) r ys)) ≡ true → place_of u rows ≡ in_line p → PhasePromise d' (pos (suc j)) →
      (s : ℕ) × ((marks_of (rows_of (hall_at d) r ys)).given ≡ OutOfLine s) × ComesFirst rows s
  first_so ys none w h t u p j q i g = clash q refl
  first_so ys (single y) w h t u p j q i g =
      let m : is_ended t (does (now d rows k d' r) y).report.marks ≡ true = rw (reported y w) at q in
      let e : is_stopped (does (now d rows k d' r) y).desk.core.phase ≡ false =
      sym (ap (λ (e : Desk). is_stopped e.core.phase) (stands_so y h)) ∙ phase_seen d' h.in_form j g in
      let v : place_of u (log does k.start k.past) ≡ in_line p = rw k.same at i in
      rw (reported y w, k.same) (goes_to_the_first k.start k.is_fresh k.past y t u p m v e)

  unseen_so : (ys : List Doing) → Short ys → Agrees (desk_at d) r ys → Holds d' (after_all (desk_at d) ys) →
      (before : Look d) (later : Look d') (s : ℕ) →
      Marked (line before) (line later) (holder before) (holder later) (marks_of (rows_of (hall_at d) r ys)) s
  unfolding waits
  unseen_so ys none w h before later s =
      let l : line later ≡ line before =
      line-seen d' h.in_form later ∙ ap (λ (e : Desk). waiting e.core.line) h.stands
      ∙ sym (line-seen d k.holds.in_form before) in
      let g : is_seat (holder later) s ≡ is_seat (holder before) s =
      holder-seen d' h.in_form later s ∙ ap (λ (e : Desk). holds e.core.phase s) h.stands
      ∙ sym (holder-seen d k.holds.in_form before s) in
      record {
        enters = λ a b. clash (rw l at b) a;
        goes = λ a b. clash a (rw l at b);
        gets = λ a b. clash (sym g ∙ b) a;
        loses = λ a b. clash a (sym g ∙ b);
      }
  unseen_so ys (single y) w h before later s =
      let m = nothing_unseen k.start k.is_fresh k.past y s in
      let old = its_line d rows k before in
      let new = line-seen d' h.in_form later ∙ ap (λ (e : Desk). waiting e.core.line) (stands_so y h) in
      let from = its_holder d rows k before s in
      let to = holder-seen d' h.in_form later s ∙ ap (λ (e : Desk). holds e.core.phase s) (stands_so y h) in
      rw (reported y w, old, new) (record {
        enters = m.enters;
        goes = m.goes;
        gets = λ a b. m.gets (sym from ∙ a) (sym to ∙ b);
        loses = λ a b. m.loses (sym from ∙ a) (sym to ∙ b);
      })

struck : StruckForAReason
struck d rows ran x p w s q =
    let k = reached d rows ran in
    struck_so d rows k x.desk (report_by x.act (take report_size x.report)) (doings x) (done_short x)
    (agrees d k.holds.octets k.holds.in_form x p) s q

goes_first : GoesToTheFirst
goes_first d rows ran x p w t u n j q i g =
    let k = reached d rows ran in
    first_so d rows k x.desk (report_by x.act (take report_size x.report)) (doings x) (done_short x)
    (agrees d k.holds.octets k.holds.in_form x p)
    (step_in_form d x p k.holds.octets k.holds.in_form w) t u n j q i g

unseen : NothingUnseen
unseen d rows ran before x p w later s =
    let k = reached d rows ran in
    unseen_so d rows k x.desk (report_by x.act (take report_size x.report)) (doings x) (done_short x)
    (agrees d k.holds.octets k.holds.in_form x p)
    (step_in_form d x p k.holds.octets k.holds.in_form w) before later s

pub nobody_drops_out_unseen : NobodyDropsOutUnseen
nobody_drops_out_unseen = record { one = nobody_dropped; two = struck; three = goes_first; four = given_ended; five = (unseen, worked) }
