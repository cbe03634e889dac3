-- Laws of the line's definitions that the proofs of its functions, and those above them, cite. Assumes nothing.
use Prim.Native.Nat.{ℕ, zero, suc, ◌+◌, ◌≤◌, ◌<◌}
use mathlib.Core.Path.{◌≡◌, refl, ap, sym, ◌∙◌}
use mathlib.Core.Bool.{Bool, true, false}
use mathlib.Core.List.{List, [], ◌∷◌, ◌++◌, append-nil}
use native.Mathlib.Numerals.{add-one}
use native.Mathlib.Omega.{arith}
use Rattle.std.specs.Prelude.{Option}
use Rattle.std.specs.Option.{MatchOption, unwrap_or}
use Rattle.std.specs.List.{AllWithin, HoldsAt, list_any}
use Rattle.std.proofs.lemmas.Iterator.{index_from_first}
use lib.Dec.{eqb, leb}
use lib.ListN.{length, take, drop, get_or, set, replicate, length-take, length-append, length-drop}
use lib.Seq.{take-suc, take_all, take-take, take-append_seam, take-set-lt}
use Rattle.words.specs.Choice.{when◌then◌else◌, if_yes, if_no, by_test}
use Rattle.words.specs.Table as table
use Rattle.line.specs.declared.Entry.{Entry}
use Rattle.line.specs.declared.Line.{Line}
use Rattle.line.specs.Line.{waiting, line_of, empty, leading, before, ahead, enter, at_least, anyone, without}

-- what a search from the front finds
pub leading_is : (test : Entry → Bool) (es : List Entry) (r : Option ℕ) →
    MatchOption r (AllWithin (λ e. test e ≡ true) es 0 (length es))
    (λ i. (i < length es) × HoldsAt (λ e. test e ≡ false) es i × AllWithin (λ e. test e ≡ true) es 0 i) →
    leading test es ≡ unwrap_or r (length es)
leading_is test =
    index_from_first (leading test) (λ (e : Entry). test e ≡ false) (λ (e : Entry). test e ≡ true) refl (λ e es t. if_no _ _ _ t)
    (λ e es t. if_yes _ _ _ t ∙ sym (add-one _))

pub anyone_is : (test : Entry → Bool) (es : List Entry) → list_any test es ≡ anyone test es
unfolding when◌then◌else◌
anyone_is test [] = refl
anyone_is test (e ∷ es) = by_test (test e) (λ t. rw t) (λ t. rw t (anyone_is test es))

pub leading_le : (test : Entry → Bool) (es : List Entry) → leading test es ≤ length es
leading_le test [] = omega arith
leading_le test (e ∷ es) = by_test (test e)
    (λ t. rw (if_yes _ _ _ t) (let h : leading test es ≤ length es = leading_le test es in omega arith))
    (λ t. rw (if_no _ _ _ t) (omega arith))

pub ahead_le : (p : ℕ) (es : List Entry) → ahead p es ≤ length es
unfolding ahead
ahead_le p es = leading_le (at_least p) es

-- the array of fifteen that holds a list
abbrev pub padded : List Entry → List Entry
padded es = table.padded empty 15 es

take_front : (n : ℕ) (es r : List Entry) → take n (take n es ++ r) ≡ take n (es ++ r)
take_front zero es r = refl
take_front (suc n) [] r = refl
take_front (suc n) (e ∷ es) r = ap (λ (l : List Entry). e ∷ l) (take_front n es r)

pub padded-front : (es : List Entry) → padded (take 15 es) ≡ padded es
padded-front es = take_front 15 es (replicate 15 empty)

-- a line by its two parts
abbrev line_with : List Entry → ℕ → Line
line_with a n = record { entries = a; len = n }

pub line_is : (a es : List Entry) (n : ℕ) → a ≡ padded es → n ≡ length (take 15 es) → line_with a n ≡ line_of es
unfolding line_of
line_is a es n p q = cc

-- who waits in the line that holds a list
pub waiting-line_of : (es : List Entry) → length es ≤ 15 → waiting (line_of es) ≡ es
unfolding waiting line_of
waiting-line_of es h =
    let t : length (take 15 es) ≡ length es = ap length (take_all 15 es h) in
    rw (t, take-take (length es) 15 (es ++ replicate 15 empty) h) (take-append_seam es (replicate 15 empty))

-- one entry more, at the first empty place
set_first : (es : List Entry) (n : ℕ) (e : Entry) → set (es ++ replicate (suc n) empty) (length es) e ≡ (es ++ e ∷ []) ++ replicate n empty
set_first [] n e = refl
set_first (x ∷ es) n e = ap (λ (l : List Entry). x ∷ l) (set_first es n e)

take_behind : (k : ℕ) (es : List Entry) (n m : ℕ) → k ≤ length es + n → k ≤ length es + m →
    take k (es ++ replicate n empty) ≡ take k (es ++ replicate m empty)
take_behind zero es n m h j = refl
take_behind (suc k) [] zero m h j = absurd (omega arith)
take_behind (suc k) [] (suc n) zero h j = absurd (omega arith)
take_behind (suc k) [] (suc n) (suc m) h j = ap (λ (l : List Entry). empty ∷ l) (take_behind k [] n m (omega arith) (omega arith))
take_behind (suc k) (e ∷ es) n m h j = ap (λ (l : List Entry). e ∷ l) (take_behind k es n m (omega arith) (omega arith))

pub padded-more : (es : List Entry) (e : Entry) → length es < 15 → set (padded es) (length es) e ≡ padded (es ++ e ∷ [])
padded-more es e h =
    sym (take-set-lt 15 (es ++ replicate 15 empty) (length es) e h) ∙ ap (take 15) (set_first es 14 e)
    ∙ take_behind 15 (es ++ e ∷ []) 14 15 (rw length-append (omega arith)) (rw length-append (omega arith))

pub padded-next : (a es : List Entry) (n : ℕ) (e x : Entry) → a ≡ padded es → n ≡ length es → e ≡ x → length es < 15 →
    set a n e ≡ padded (es ++ x ∷ [])
padded-next a es n e x p q r h = rw (p, q, r) (padded-more es x h)

-- the first so many, and one more
pub next-taken : (es : List Entry) (i : ℕ) → i < length es → take (i + 1) es ≡ take i es ++ (get_or es i empty ∷ [])
next-taken es i h = rw add-one (take-suc es i empty h)

-- the list with an entry put in at a place
pub put_length : (es : List Entry) (k : ℕ) (e : Entry) → k ≤ length es → length (take k es ++ e ∷ drop k es) ≡ length es + 1
put_length es k e h = simp (length-append, length-take, length-drop) (omega arith)

-- what is put in among the first stays among them
pub put_first : (k n : ℕ) (es : List Entry) (e : Entry) → k ≤ n →
    take (suc n) (take k es ++ e ∷ drop k es) ≡ take k (take n es) ++ e ∷ drop k (take n es)
put_first zero n es e h = refl
put_first (suc k) zero es e h = absurd (omega arith)
put_first (suc k) (suc n) [] e h = refl
put_first (suc k) (suc n) (x ∷ es) e h = ap (λ (l : List Entry). x ∷ l) (put_first k n es e (omega arith))

-- an entry goes in, place by place
pub enter_nil : (e : Entry) → enter e [] ≡ e ∷ []
unfolding enter ahead
enter_nil e = refl

pub enter_cons : (e x : Entry) (xs : List Entry) →
    enter e (x ∷ xs) ≡ (when leb e.priority x.priority then x ∷ enter e xs else e ∷ x ∷ xs)
unfolding enter ahead when◌then◌else◌
enter_cons e x xs = by_test (leb e.priority x.priority) (λ q. rw q) (λ q. rw q)

pub enter-length : (e : Entry) (es : List Entry) → length (enter e es) ≡ length es + 1
unfolding enter
enter-length e es = put_length es (ahead e.priority es) e (ahead_le e.priority es)

-- how many stand before a seat, place by place
pub before_here : (e : Entry) (es : List Entry) (s : ℕ) → eqb e.seat s ≡ true → before s (e ∷ es) ≡ 0
unfolding before when◌then◌else◌
before_here e es s t = rw t

pub before_later : (e : Entry) (es : List Entry) (s : ℕ) → eqb e.seat s ≡ false → before s (e ∷ es) ≡ suc (before s es)
unfolding before when◌then◌else◌
before_later e es s t = rw t

-- striking off goes entry by entry
pub without-append : (seats : List Bool) (a b : List Entry) → without seats (a ++ b) ≡ without seats a ++ without seats b
unfolding without when◌then◌else◌
without-append seats [] b = refl
without-append seats (e ∷ a) b = by_test (get_or seats e.seat false)
    (λ t. rw t (without-append seats a b))
    (λ t. rw t (ap (λ (l : List Entry). e ∷ l) (without-append seats a b)))

pub without_le : (seats : List Bool) (es : List Entry) → length (without seats es) ≤ length es
unfolding without when◌then◌else◌
without_le seats [] = omega arith
without_le seats (e ∷ es) = let h : length (without seats es) ≤ length es = without_le seats es in by_test (get_or seats e.seat false)
    (λ t. rw t (omega arith))
    (λ t. rw t (omega arith))

module _ (seats : List Bool) (es : List Entry) (i : ℕ) (h : i < length es) where
  pub without_struck : get_or seats (get_or es i empty).seat false ≡ true → without seats (take (i + 1) es) ≡ without seats (take i es)
  unfolding without when◌then◌else◌
  without_struck t = rw (next-taken es i h, without-append seats (take i es), t) (append-nil _)

  pub without_kept : get_or seats (get_or es i empty).seat false ≡ false →
      without seats (take (i + 1) es) ≡ without seats (take i es) ++ (get_or es i empty ∷ [])
  unfolding without when◌then◌else◌
  without_kept t = rw (next-taken es i h, without-append seats (take i es), t)
