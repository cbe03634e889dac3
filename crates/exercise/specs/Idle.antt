-- The idle versions of document 01, "How strictly it is stated": desks that do nothing, or nothing right, and the row of Thursday's table
-- where each is stopped. A version is any function from a desk and what happens to it to the desk afterwards and its report. It plays the
-- table by itself: each row on the desk that it left after the rows before. It keeps a row if what is seen of its step there is the
-- table's. Assumes nothing.
use Rattle.std.specs.Prelude.{ℕ, zero, suc, ◌<◌, ◌≡◌, refl, Bool, true, false, List, [], ◌∷◌, length, Option, Some, None, Ok}
use Rattle.std.proofs.Common.{ap, sym, ◌∙◌, arith}
use Rattle.words.proofs.Tests.{clash}
use Rattle.steps.specs.declared.Core.{Core}
use Rattle.steps.specs.declared.Phase.{Phase}
use Rattle.steps.specs.declared.Marks.{Marks}
use Rattle.steps.specs.Words.{done, no_marks, is_nothing}
use Rattle.events.specs.declared.Event.TheVariants.{Start, Request}
use Rattle.events.specs.declared.Outcome.{Outcome}
use Rattle.events.specs.Events.{fresh, outcome}
use Rattle.events.specs.declared.Desk.{Desk}
use Rattle.history.specs.Doing.{Doing, event, after, does, steps_of}
use Rattle.ways.specs.Refusals.{is_deny}
use Rattle.exercise.specs.Thursday.{start, Seen, seen, TableRow, row_b, thursday_table, events, outcomes, seen_all, thursday}

abbrev pub Version : Type 0
Version = Desk → Doing → Outcome

-- row n of some rows, counted from 0, is kept
abbrev pub keeps_in : Version → Desk → List TableRow → ℕ → Type 0
keeps_in v d [] n = ⊥
keeps_in v d (r ∷ rs) zero = seen (v d r.happens) ≡ r.comes
keeps_in v d (r ∷ rs) (suc n) = keeps_in v (v d r.happens).desk rs n

abbrev pub Keeps : Version → ℕ → Type 0
Keeps v n = keeps_in v start thursday_table n

-- the rows that stop them: a, b, f, g, h, i
abbrev pub KeepsA : Version → Type 0
KeepsA v = Keeps v 0

abbrev pub KeepsB : Version → Type 0
KeepsB v = Keeps v 1

abbrev pub KeepsF : Version → Type 0
KeepsF v = Keeps v 5

abbrev pub KeepsG : Version → Type 0
KeepsG v = Keeps v 6

abbrev pub KeepsH : Version → Type 0
KeepsH v = Keeps v 7

abbrev pub KeepsI : Version → Type 0
KeepsI v = Keeps v 8

-- row b's event, and the desk on which a version meets it
abbrev ask_b : Doing
ask_b = event (Request 10 (Some 5))

abbrev desk_b : Version → Desk
desk_b v = (v start (event Start)).desk

-- the rules keep every row: that is the statement of Thursday's exercise
abbrev first_of : List Seen → Seen
first_of [] = row_b.comes
first_of (s ∷ ss) = s

abbrev rest_of : List Seen → List Seen
rest_of [] = []
rest_of (s ∷ ss) = ss

keeps_in_lem : (d : Desk) (rs : List TableRow) (n : ℕ) → n < length rs → seen_all (steps_of d (events rs)) ≡ outcomes rs →
    keeps_in does d rs n
keeps_in_lem d [] n l e = absurd (omega (arith, l))
keeps_in_lem d (r ∷ rs) zero l e = ap first_of e
keeps_in_lem d (r ∷ rs) (suc n) l e = keeps_in_lem (after d r.happens) rs n (omega (arith, l)) (ap rest_of e)

pub rules_keep : (n : ℕ) → n < length thursday_table → Keeps does n
rules_keep n l = keeps_in_lem start thursday_table n l thursday

-- one whose first step is the rules' keeps row a
keeps_a : (v : Version) → v start (event Start) ≡ does start (event Start) → KeepsA v
keeps_a v e = ap seen e ∙ ap first_of thursday

-- a desk that refuses all
pub refuses_all : (v : Version) → ((d : Desk) (x : Doing) → (v d x).answer ≡ Ok tt → ⊥) → KeepsB v → ⊥
refuses_all v f k = f (desk_b v) ask_b (ap (λ (s : Seen). s.answer) k)

-- a desk that always denies: it starts as the rules say, so it keeps row a, and whoever asks is told a Deny
pub always_denies : (v : Version) → ((d : Desk) → v d (event Start) ≡ does d (event Start))
    → ((d : Desk) (x : ℕ) (p : Option ℕ) → is_deny (v d (event (Request x p))).report.first.kind ≡ true) → KeepsA v × (KeepsB v → ⊥)
always_denies v s f =
    (keeps_a v (s start), λ k. clash (f (desk_b v) 10 (Some 5)) (ap (λ (s : Seen). is_deny s.first.kind) k))

-- a desk that never changes: the sequence number is 0 at the start and 2 after b
sequence_0 : start.core.sequence ≡ 0
unfolding fresh does
sequence_0 = refl

pub never_changes : (v : Version) → ((d : Desk) (x : Doing) → (v d x).desk.core ≡ d.core) → KeepsB v → ⊥
never_changes v f k =
    let p : (v (desk_b v) ask_b).desk.core.sequence ≡ 0 =
    ap (λ (c : Core). c.sequence) (f (desk_b v) ask_b ∙ f start (event Start)) ∙ sequence_0 in
    let q : (v (desk_b v) ask_b).desk.core.sequence ≡ 2 = ap (λ (s : Seen). s.sequence) k in
    omega arith

-- one that works for the first event, and then only answers 0
abbrev pub only_done : Desk → Outcome
only_done d = outcome (done d.core) d.hall d.names

pub works_once : (v : Version) → v start (event Start) ≡ does start (event Start)
    → ((x : Doing) → v (after start (event Start)) x ≡ only_done (after start (event Start))) → KeepsA v × (KeepsB v → ⊥)
works_once v e f =
    let silent : Outcome → Bool = λ l. is_nothing l.report.first.kind in (
      keeps_a v e,
      λ k. clash (ap (λ (l : Outcome). silent (v l.desk ask_b)) e ∙ ap silent (f ask_b))
          (ap (λ (s : Seen). is_nothing s.first.kind) k),
    )

-- Marks that are invented. Those of a step that is the table's are the table's, at every row.
abbrev pub marks_at_row : Version → Desk → List TableRow → ℕ → Marks
marks_at_row v d [] n = no_marks
marks_at_row v d (r ∷ rs) zero = (v d r.happens).report.marks
marks_at_row v d (r ∷ rs) (suc n) = marks_at_row v (v d r.happens).desk rs n

abbrev pub row_marks : List TableRow → ℕ → Marks
row_marks [] n = no_marks
row_marks (r ∷ rs) zero = r.comes.marks
row_marks (r ∷ rs) (suc n) = row_marks rs n

invents_in : (v : Version) (d : Desk) (rs : List TableRow) (n : ℕ) → (marks_at_row v d rs n ≡ row_marks rs n → ⊥) → keeps_in v d rs n → ⊥
invents_in v d [] n f k = k
invents_in v d (r ∷ rs) zero f k = f (ap (λ (s : Seen). s.marks) k)
invents_in v d (r ∷ rs) (suc n) f k = invents_in v (v d r.happens).desk rs n f k

pub invents-marks : (v : Version) (n : ℕ) → (marks_at_row v start thursday_table n ≡ row_marks thursday_table n → ⊥) → Keeps v n → ⊥
invents-marks v n f k = invents_in v start thursday_table n f k

abbrev has_seat : Option ℕ → Bool
has_seat None = false
has_seat (Some s) = true

-- Marks made up from what happens alone, one mark for all among them: g and i are the same request, denied at g and placed at i.
pub marks_of_the_event : (v : Version) (f : Doing → Marks) → ((d : Desk) (x : Doing) → (v d x).report.marks ≡ f x) → KeepsG v → KeepsI v → ⊥
marks_of_the_event v f m g i =
    let placed : Marks → Bool = λ x. has_seat x.placed in
    let p = sym (m _ _) ∙ ap (λ (s : Seen). s.marks) g in
    let q = sym (m _ _) ∙ ap (λ (s : Seen). s.marks) i in
    clash (ap placed q) (ap placed p)

-- Marks made up from all that is seen of a desk but its line: f and h leave the same phase and number, and lines of two and of one.
alike : (f : Phase → ℕ → Doing → Marks) (p q : Phase) (m n : ℕ) (x : Doing) → p ≡ q → m ≡ n → f p m x ≡ f q n x
alike f p q m n x e o = rw (e, o)

pub marks_without_the_line : (v : Version) (f : Phase → ℕ → Doing → Marks)
    → ((d : Desk) (x : Doing) → (v d x).report.marks ≡ f d.core.phase d.core.sequence x) → KeepsF v → KeepsG v → KeepsH v →
    KeepsI v → ⊥
marks_without_the_line v f m kf kg kh ki =
    let placed : Marks → Bool = λ x. has_seat x.placed in
    let phase : Seen → Phase = λ s. s.phase in
    let sequence : Seen → ℕ = λ s. s.sequence in
    let p = sym (m _ _) ∙ ap (λ (s : Seen). s.marks) kg in
    let q = sym (m _ _) ∙ ap (λ (s : Seen). s.marks) ki in
    let e = alike f _ _ _ _ _ (ap phase kh ∙ sym (ap phase kf)) (ap sequence kh ∙ sym (ap sequence kf)) in
    clash (ap placed q) (ap placed (e ∙ p))
