-- What is refused writes nothing; octets that are no desk's are refused by 20; then the rules answer. Assumes nothing.
use Rattle.report_octets.specs.Places.{report_size}
use Rattle.desk_octets.specs.Places.{desk_size}
use Prim.Native.Nat.{ℕ, ◌≤◌}
use mathlib.Core.Path.{◌≡◌, refl, ap, sym, subst, ◌∙◌}
use mathlib.Core.Bool.{true, false, not}
use mathlib.Core.List.{List}
use lib.Dec.{eqb, leb}
use lib.ListN.{length}
use lib.IntN.{ℤ}
use borrow.Author.Tests.{eqb-true, le-leb}
use Rattle.words.specs.Choice.{when◌then◌else◌, by_test, by_if}
use native.Mathlib.Omega.{arith}
use Rattle.message.specs.Answers.{Answer, refused}
use Rattle.hall.specs.Answers.{answer_number}
use Rattle.joining.specs.declared.Joined.{Joined}
use Rattle.joining.specs.Join.{ssrc_taken, seated, join}
use Rattle.std.proofs.Common.{Option, Some, None, Result, Ok, Err, is_some}
use Rattle.sheet.specs.declared.Refusal.{Refusal}
use Rattle.events.specs.declared.Desk.{Desk}
use Rattle.loading.specs.Loading.{loading}
use Rattle.hall.specs.Seats.{free_seat}
use Rattle.identities.specs.Identity.{seat_named, length_allowed}
use Rattle.hall.specs.declared.Newcomer.{Newcomer}
use Rattle.hall.specs.declared.Hall.{Hall}
use Rattle.identities.specs.declared.Names.{Names}
use Rattle.steps.specs.declared.Core.{Core}
use Rattle.history.specs.Doing.{Doing, joins, does}
use Rattle.words.proofs.Tests.{clash}
use Rattle.desk_octets.specs.Form.{hall_at, names_at}
use Rattle.desk_test.specs.Lent.{formed}
use Rattle.desk_steps.specs.Steps.{Leaves, step_leaves, settles, outcome_on}
use Rattle.desk_making.specs.Making.{desk_written, loaded_into, join_on, settable, seat_taken}
use Rattle.signed.specs.Signed.{signed, by_number, answers, Refuses}
use Rattle.seat_looking.specs.Showing.{seat_shown, settings_shown}
use Rattle.desk_looking.specs.Looking.{looks, screen_on, save_on, message_on}
use Rattle.desk_test.proofs.Desks.{has_room}
use Rattle.desk_steps.proofs.Steps.{no_desk_so}
use Rattle.floor_laws.specs.Kept.{desk_at, Act, PromisedBy, meant, ruled, done_by, told_by, Minus20, RefusalWritesNothing, NotMade}
use Rattle.floor_laws.specs.Kept.{NotLoaded, NotADesk}
use Rattle.floor_laws.specs.Kept.{NotLookedAt, Unread, NotWrittenFrom, RulesAnswer}
use Rattle.events.specs.declared.Outcome.{Outcome}
use Rattle.floor_laws.proofs.Acts.{by_act}

module _ (d r : List ℕ) where
  -- a step's own account
  abbrev Untouched : Leaves → Type 0
  Untouched l = Refuses l.answer → (l.desk ≡ d) × (l.report ≡ r)

  settles_untouched : (n : ℕ) (desk report : List ℕ) → Untouched (settles d r n desk report)
  unfolding settles
  settles_untouched n desk report =
      by_if Untouched (formed d)
      (λ _. by_if Untouched (eqb n 0)
      (λ _. by_if Untouched (leb report_size (length r)) (λ _ z. clash refl z) (λ _ z. (refl, refl)))
      (λ _ z. (refl, refl)))
      (λ _ z. (refl, refl))

  outcome_untouched : (o : Outcome) → Untouched (outcome_on d r o)
  unfolding outcome_on
  outcome_untouched o = settles_untouched (answer_number o.answer) _ _

-- a room's
module _ (room : List ℕ) where
  abbrev pub Unwritten : ℤ × List ℕ → Type 0
  Unwritten w = Refuses w.0 → w.1 ≡ room

  written_untouched : (n k : ℕ) (c : Core) (h : Hall) (ns : Names) → Unwritten (desk_written room n k c h ns)
  unfolding desk_written
  written_untouched n k c h ns =
      by_if Unwritten (eqb n 0) (λ _. by_if Unwritten (leb desk_size (length room)) (λ _ z. clash refl z) (λ _ z. refl)) (λ _ z. refl)

  loaded_untouched : (l : Result Desk Refusal) → Unwritten (loaded_into room l)
  loaded_untouched (Ok d) = written_untouched 0 0 d.core d.hall d.names
  loaded_untouched (Err r) = λ z. refl

join_untouched : (d o : List ℕ) (w : Newcomer) → Unwritten d (join_on d o w)
join_untouched d o w = by_if (Unwritten d) (formed d) (λ _. written_untouched d _ _ _ _ _) (λ _ y. refl)

-- so of what is promised
untouched_by : (a : Act) (d r : List ℕ) (n : ℤ) (d' r' : List ℕ) → PromisedBy a d r n d' r' → Untouched d r (step_leaves n d' r')
untouched_by a d r n d' r' p =
    by_act (Untouched d r) a d r n d' r' p (λ o w _ z. (join_untouched d o w z, refl))
    (λ _. outcome_untouched d r (does (desk_at d) (meant a)))

pub refusal_writes_nothing : RefusalWritesNothing
refusal_writes_nothing d x p = untouched_by x.act d x.room x.answer x.desk x.report p

pub not_made : NotMade
not_made room g n room' p =
    subst (λ (w : ℤ × List ℕ). Unwritten room w) (sym p)
    (by_if (Unwritten room) (settable g) (λ _. written_untouched room 0 0 _ _ _) (λ _ z. refl))

pub not-loaded : NotLoaded
not-loaded room sheet n room' p = subst (λ (w : ℤ × List ℕ). Unwritten room w) (sym p) (loaded_untouched room (loading sheet))

-- 20
outcome_no_desk : (d r : List ℕ) (o : Outcome) → formed d ≡ false → Minus20 (outcome_on d r o).answer
unfolding outcome_on
outcome_no_desk d r o q = ap (λ (l : Leaves). l.answer) (no_desk_so d r _ _ _ q)

join_no_desk : (d o : List ℕ) (w : Newcomer) → formed d ≡ false → Minus20 (join_on d o w).0
unfolding when◌then◌else◌
join_no_desk d o w q = rw q

no_look : (d : List ℕ) (a : Answer ℕ) → formed d ≡ false → looks d a ≡ signed (refused 20)
unfolding looks when◌then◌else◌
no_look d a q = rw q

pub not_looked_at : NotLookedAt
not_looked_at d n q = (
  λ p. p ∙ no_look d _ q,
  λ p. p ∙ no_look d _ q,
  λ p. p ∙ no_look d _ q,
  λ p. p ∙ no_look d _ q,
  λ p. p ∙ no_look d _ q,
  λ p. p ∙ no_look d _ q,
  λ p. p ∙ no_look d _ q,
  λ p. p ∙ no_look d _ q,
  λ x p. p ∙ no_look d _ q,
  λ o p. p ∙ no_look d _ q,
)

no_screen : (d room : List ℕ) → formed d ≡ false → screen_on d room ≡ answers (refused 20) room
unfolding when◌then◌else◌
no_screen d room q = rw q

no_sheet : (d room : List ℕ) → formed d ≡ false → save_on d room ≡ answers (refused 20) room
unfolding when◌then◌else◌
no_sheet d room q = rw q

no_message : (d r : List ℕ) (which : ℕ) (room : List ℕ) → formed d ≡ false → message_on d r which room ≡ answers (refused 20) room
unfolding when◌then◌else◌
no_message d r which room q = rw q

no_seat : (d : List ℕ) (seat : ℕ) (room : List ℕ) → formed d ≡ false → seat_shown d seat room ≡ answers (refused 20) room
unfolding when◌then◌else◌
no_seat d seat room q = rw q

no_settings_lem : (d room : List ℕ) → formed d ≡ false → settings_shown d room ≡ answers (refused 20) room
unfolding when◌then◌else◌
no_settings_lem d room q = rw q

not_read : (n : ℤ) (room room' : List ℕ) → (n, room') ≡ answers (refused 20) room → Unread n room room'
not_read n room room' e = (ap (λ (w : ℤ × List ℕ). w.0) e, ap (λ (w : ℤ × List ℕ). w.1) e)

pub not-written-from : NotWrittenFrom
not-written-from d room n room' q = (
  λ p. not_read n room room' (p ∙ no_screen d room q),
  λ p. not_read n room room' (p ∙ no_sheet d room q),
  λ r w p. not_read n room room' (p ∙ no_message d r w room q),
  λ s p. not_read n room room' (p ∙ no_seat d s room q),
  λ p. not_read n room room' (p ∙ no_settings_lem d room q),
)

no_desk_by : (a : Act) (d r : List ℕ) (n : ℤ) (d' r' : List ℕ) → PromisedBy a d r n d' r' → formed d ≡ false → Minus20 n
no_desk_by a d r n d' r' p f =
    by_act (λ (l : Leaves). Minus20 l.answer) a d r n d' r' p (λ o w _. join_no_desk d o w f)
    (λ _. outcome_no_desk d r (does (desk_at d) (meant a)) f)

pub not-a-desk : NotADesk
not-a-desk d x p f = no_desk_by x.act d x.room x.answer x.desk x.report p f

-- what the rules answer
settles-answers : (d r : List ℕ) (n : ℕ) (desk report : List ℕ) → formed d ≡ true → (n ≡ 0 → report_size ≤ length r) →
    (settles d r n desk report).answer ≡ signed (by_number n 0)
unfolding settles when◌then◌else◌
settles-answers d r n desk report q b =
    by_test (eqb n 0) (λ e. rw (q, e, le-leb report_size (length r) (b (eqb-true n 0 e)))) (λ e. rw (q, e))

module _ (d r : List ℕ) (q : formed d ≡ true) where
  outcome-answers : (o : Outcome) → (answer_number o.answer ≡ 0 → report_size ≤ length r) →
      (outcome_on d r o).answer ≡ signed (by_number (answer_number o.answer) 0)
  unfolding outcome_on
  outcome-answers o b = settles-answers d r (answer_number o.answer) _ _ q b

  written-answers : (n k : ℕ) (c : Core) (h : Hall) (ns : Names) → (desk_written d n k c h ns).0 ≡ signed (by_number n k)
  unfolding desk_written when◌then◌else◌
  written-answers n k c h ns = by_test (eqb n 0) (λ e. rw (e, le-leb desk_size (length d) (has_room d q))) (λ e. rw e)

-- who joins sits in the lowest free seat
module _ (h : Hall) (ns : Names) (o : List ℕ) (w : Newcomer) where
  abbrev Sits : Joined → Type 0
  Sits j = answer_number j.answer ≡ 0 → j.seat ≡ free_seat h

  seated_so : (f : Option ℕ) → free_seat h ≡ f → Sits (seated h ns o w f)
  unfolding seated
  seated_so None e z = absurd (omega (arith, z))
  seated_so (Some s) e z = sym e

  joins_lowest : Sits (join h ns o w)
  unfolding join
  joins_lowest =
      by_if Sits (not (length_allowed o)) (λ _ z. absurd (omega (arith, z)))
      (λ _. by_if Sits (is_some (seat_named h ns o)) (λ _ z. absurd (omega (arith, z)))
      (λ _. by_if Sits (ssrc_taken h w.ssrc) (λ _ z. absurd (omega (arith, z))) (λ _. seated_so (free_seat h) refl)))

-- the seat counts only where it was taken
same_number : (n k m : ℕ) → (n ≡ 0 → k ≡ m) → signed (by_number n k) ≡ signed (by_number n m)
unfolding when◌then◌else◌
same_number n k m f = by_test (eqb n 0) (λ e. rw (e, f (eqb-true n 0 e))) (λ e. rw e)

module _ (d : List ℕ) (q : formed d ≡ true) (i : List ℕ) (w : Newcomer) where
  abbrev joined : Joined
  joined = join (hall_at d) (names_at d) i w

  join-answers : (join_on d i w).0 ≡ signed (by_number (answer_number joined.answer) (done_by (desk_at d) (joins i w)))
  join-answers =
      by_if (λ (v : ℤ × List ℕ). v.0 ≡ signed (by_number (answer_number joined.answer) (done_by (desk_at d) (joins i w)))) (formed d)
      (λ _. written-answers d d q _ _ _ _ _
      ∙ same_number (answer_number joined.answer) (seat_taken joined.seat) (done_by (desk_at d) (joins i w))
      (λ z. ap seat_taken (joins_lowest (hall_at d) (names_at d) i w z)))
      (λ z. clash q z)

answers_by : (a : Act) (d r : List ℕ) (n : ℤ) (d' r' : List ℕ) → PromisedBy a d r n d' r' → formed d ≡ true →
    (ruled (desk_at d) a ≡ 0 → report_size ≤ length r) → n ≡ told_by (desk_at d) a
unfolding does
answers_by a d r n d' r' p q b =
    by_act (λ (l : Leaves). l.answer ≡ told_by (desk_at d) a) a d r n d' r' p
    (λ o w e. join-answers d q o w
    ∙ ap (λ (x : Doing). signed (by_number (answer_number (does (desk_at d) x).answer) (done_by (desk_at d) x))) (sym e))
    (λ z. outcome-answers d r q (does (desk_at d) (meant a)) b ∙ ap (λ (k : ℕ). signed (by_number (ruled (desk_at d) a) k)) (sym z))

pub rules_answer : RulesAnswer
rules_answer d x p q b = answers_by x.act d x.room x.answer x.desk x.report p q b
