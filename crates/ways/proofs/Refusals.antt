-- What is refused, and what is denied, changes nothing: by the ways in which it can go. Assumes nothing.
use Prim.Native.Nat.{ℕ}
use mathlib.Core.Path.{◌≡◌, refl, ap, ◌∙◌}
use mathlib.Core.Bool.{Bool, true, false, ◌||◌}
use Rattle.words.specs.Choice.{by_if}
use Rattle.words.proofs.Tests.{clash, neither}
use Rattle.line.specs.declared.Line.{Line}
use Rattle.hall.specs.declared.Hall.{Hall}
use Rattle.std.specs.Prelude.{Ok}
use Rattle.hall.specs.Answers.{DeskAnswer}
use Rattle.steps.specs.declared.Core.{Core}
use Rattle.steps.specs.declared.Kind.{Kind}
use Rattle.steps.specs.declared.Sending.{Sending}
use Rattle.steps.specs.declared.Marks.{Marks}
use Rattle.steps.specs.declared.Report.{Report}
use Rattle.steps.specs.Words.{silence, no_marks}
use Rattle.request.specs.Request.{info_of}
use Rattle.request.specs.Cut.{info_for}
use Rattle.events.specs.declared.Outcome.{Outcome}
use Rattle.events.specs.declared.Desk.{Desk}
use Rattle.history.specs.Doing.{Doing, does}
use Rattle.ways.specs.Ways.{Reports, Six, informs, presses, informs_and_presses}
use Rattle.ways.specs.Ways as way
use Rattle.ways.specs.Refusals.{RefusalsChangeNothing, is_deny, DenyChangesNothing}
use Rattle.ways.proofs.Walk.{every_way}

-- Info is no Deny
info_none : (l : Line) (t : ℕ) → is_deny (info_of l t) ≡ false
unfolding info_of
info_none l t = by_if (λ (k : Kind). is_deny k ≡ false) _ (λ _. refl) (λ _. refl)

info_for_none : (l : Line) (t : ℕ) (q : Bool) → is_deny (info_for l t q).kind ≡ false
info_for_none l t q = by_if (λ (m : Sending). is_deny m.kind ≡ false) q (λ _. info_none l t) (λ _. refl)

abbrev denies : Report → Bool
denies r = is_deny r.first.kind || is_deny r.second.kind

six_none : {c : Core} {h : Hall} {t : ℕ} {new : Core} {first second : Sending} → Six c h t new first second →
    (is_deny first.kind || is_deny second.kind) ≡ false
six_none {c} {h} {t} (informs q f s) = rw (f, s) (neither _ _ (info_for_none c.line t _) refl)
six_none {c} {h} {t} (presses e b k q f s) = rw (f, s)
six_none {c} {h} {t} (informs_and_presses e b k q f s) = rw (f, s, info_none c.line t)

module _ (d : Desk) (x : Doing) (l : Outcome) where
  -- what is done is not refused
  done : {first second : Sending} {m : Marks} {A : Type 0} → Reports l first second m → (l.answer ≡ Ok tt → ⊥) → A
  done q n = absurd (n q.0)

  abbrev Same : Type 0
  Same = (l.desk ≡ d) × (l.report.first ≡ silence) × (l.report.second ≡ silence) × (l.report.marks ≡ no_marks)

  refused-same : way.Way d x l → (l.answer ≡ Ok tt → ⊥) → Same
  refused-same (way.refuses r u v q m) n =
      (q, ap (λ (r : Report). r.first) m.1, ap (λ (r : Report). r.second) m.1, ap (λ (r : Report). r.marks) m.1)
  refused-same (way.grants_holder t p e b a w k q m) n = done m n
  refused-same (way.denies t p c a s u b q m) n = done m n
  refused-same (way.gives t p a s i q m) n = done m n
  refused-same (way.asks_again t p f g a s w z m) n = done m n
  refused-same (way.moves t p f g a s b k w r z m) n = done m n
  refused-same (way.places t p f g a s b k r w u z m) n = done m n
  refused-same (way.passes t e es a f k w q m) n = done m n
  refused-same (way.frees t a f k w q m) n = done m n
  refused-same (way.strikes t a g k w q m) n = done m n
  refused-same (way.tells s t y i q m) n = done m n
  refused-same (way.talks s e b y w q m) n = done m n
  refused-same (way.rests a f q m) n = done m n
  refused-same (way.starts y w q m) n = done m n
  refused-same (way.halts t y k q m) n = done m n
  refused-same (way.closes y i q m) n = done m n
  refused-same (way.revokes e b y w q m) n = done m n
  refused-same (way.revokes_again e c y w q m) n = done m n
  refused-same (way.grants_again e b y w z q m) n = done m n
  refused-same (way.idles_again y i z q m) n = done m n
  refused-same (way.idles_on y i q m) n = done m n

  -- what says something else is no Deny
  other : {a : DeskAnswer} {r : Report} {A : Type 0} → (l.answer ≡ a) × (l.report ≡ r) → denies r ≡ false → denies l.report ≡ true → A
  other q f z = clash z (ap denies q.1 ∙ f)

  abbrev Kept : Type 0
  Kept = (l.answer ≡ Ok tt) × (l.desk ≡ d) × (l.report.second ≡ silence) × (l.report.marks ≡ no_marks)

  denied-same : way.Way d x l → denies l.report ≡ true → Kept
  denied-same (way.refuses r u v q m) z = other m refl z
  denied-same (way.grants_holder t p e b a w k q m) z = other m refl z
  denied-same (way.denies t p c a s u b q m) z =
      (m.0, q, ap (λ (r : Report). r.second) m.1, ap (λ (r : Report). r.marks) m.1)
  denied-same (way.gives t p a s i q m) z = other m refl z
  denied-same (way.asks_again t p f g a s w y m) z = other m (six_none y) z
  denied-same (way.moves t p f g a s b k w r y m) z = other m (six_none y) z
  denied-same (way.places t p f g a s b k r w u y m) z = other m (six_none y) z
  denied-same (way.passes t e es a f k w q m) z = other m refl z
  denied-same (way.frees t a f k w q m) z = other m refl z
  denied-same (way.strikes t a g k w q m) z = other m refl z
  denied-same (way.tells s t y i q m) z = other m (rw (info_none d.core.line t)) z
  denied-same (way.talks s e b y w q m) z = other m refl z
  denied-same (way.rests a f q m) z = other m refl z
  denied-same (way.starts y w q m) z = other m refl z
  denied-same (way.halts t y k q m) z = other m refl z
  denied-same (way.closes y i q m) z = other m refl z
  denied-same (way.revokes e b y w q m) z = other m refl z
  denied-same (way.revokes_again e c y w q m) z = other m refl z
  denied-same (way.grants_again e b y w k q m) z = other m refl z
  denied-same (way.idles_again y i k q m) z = other m refl z
  denied-same (way.idles_on y i q m) z = other m refl z

pub refusals_change_nothing : RefusalsChangeNothing
refusals_change_nothing d x n =
    let s = refused-same d x (does d x) (every_way d x) n in
    record { desk = s.0; first = s.1; second = s.2; marks = s.3 }

pub deny_changes_nothing : DenyChangesNothing
deny_changes_nothing d x z =
    let s = denied-same d x (does d x) (every_way d x) z in
    record { answer = s.0; desk = s.1; second = s.2; marks = s.3 }
