-- A report and its 24 octets, both ways (specs/Reported). Assumes nothing.
use Prim.Native.Nat.{ℕ, zero, suc, ◌+◌, ◌*◌, ◌/◌, ◌%◌, ◌^◌, ◌≤◌, ◌<◌}
use Rattle.std.proofs.Common.{Option, Some, None}
use mathlib.Core.Path.{◌≡◌, refl, ap, sym, ◌∙◌}
use mathlib.Core.Bool.{Bool, true, false, ◌&&◌}
use mathlib.Core.List.{List, [], ◌∷◌, ◌++◌, append_assoc, append-nil}
use native.Mathlib.Omega.{arith}
use native.Mathlib.Nat.{mod-eq_of_lt, pow-suc}
use lib.Dec.{eqb, leb, ltb}
use lib.ListN.{length, get_or, drop, drop_of_length-le}
use lib.Seq.{drop-cons}
use borrow.Author.Tests.{eqb-true, eqb-false, eq-eqb, ne_eqb, ltb-true, lt-ltb, leb-true}
use Rattle.std.proofs.lemmas.Bool.Decides.{nat_tests}
use Rattle.words.specs.Choice.{when◌then◌else◌, if_yes, if_no, by_test, by_if, one}
use Rattle.words.proofs.Tests.{clash, and_both, and_three, and_four, and_five, four, or_else}
use Rattle.octets.specs.Octets.{Octets, be16, octets16}
use Rattle.steps.specs.declared.Kind.{Kind}
use Rattle.steps.specs.declared.Kind.TheVariants as say
use Rattle.steps.specs.declared.Sending.{Sending}
use Rattle.steps.specs.declared.Given.{Given}
use Rattle.steps.specs.declared.Given.TheVariants.{NotGiven, AtOnce, OutOfLine}
use Rattle.steps.specs.declared.Marks.{Marks}
use Rattle.report_octets.specs.Places.{report_size, struck_place, struck_zero, placed_place, ended_place, given_place, how_place, how_zero}
use Rattle.report_octets.specs.Places.{first_place, second_place, seat_within, number_within, priority_within, zero_within, mask_within}
use Rattle.report_octets.specs.declared.Particulars.{Particulars}
use Rattle.report_octets.specs.Report.{mask_of, seat_octet, given_octet, how_octet, with, particulars, octets_of_message, marks_octets}
use Rattle.report_octets.specs.Report.{octets_of_report}
use Rattle.report_octets.specs.Report.{particulars_at, kind_of, alike, said_by, told_in}
use Rattle.report_octets_laws.specs.Reported.{seats_in, set_of, mark_of, given_of, marks_in, sending_at, report_in, is_mark, is_how}
use Rattle.report_octets_laws.specs.Reported.{are_marks}
use Rattle.report_octets_laws.specs.Reported.{is_message, is_message_at, is_report, MarkFits, GivenFits, KindFits, MessageFits, MarksFit}
use Rattle.report_octets_laws.specs.Reported.{ReportFits, SaysTheReport, ReportWrittenBack, HasOctets, SaysAReport, SameMessages}
use Rattle.steps.specs.declared.Report.{Report}
use Rattle.octets.proofs.Numbers.{back16}
use Rattle.report_octets.proofs.Masks.{mask_fits}

same : (n : ℕ) → eqb n n ≡ true
same n = eq-eqb n n refl

-- SETS: sixteen seats and a number below 65,536

set_back : (set : List Bool) → seats_in (length set) (mask_of set) ≡ set
set_back [] = refl
set_back (true ∷ bs) =
    let m : (1 + 2 * mask_of bs) % 2 ≡ 1 = omega arith in
    let n : (1 + 2 * mask_of bs) / 2 ≡ mask_of bs = omega arith in
    rw (m, n, set_back bs)
set_back (false ∷ bs) =
    let m : (0 + 2 * mask_of bs) % 2 ≡ 0 = omega arith in
    let n : (0 + 2 * mask_of bs) / 2 ≡ mask_of bs = omega arith in
    rw (m, n, set_back bs)

bit_forth : (m : ℕ) → one (eqb (m % 2) 1) ≡ m % 2
bit_forth m = by_test (eqb (m % 2) 1) (λ t. rw t (sym (eqb-true (m % 2) 1 t))) (λ t. rw t (omega (arith, eqb-false (m % 2) 1 t)))

set_forth : (n m : ℕ) → m < 2 ^ n → mask_of (seats_in n m) ≡ m
set_forth zero m h = omega arith
set_forth (suc n) m h =
    let l : m < 2 ^ n * 2 = rw pow-suc at h in
    let k : mask_of (seats_in n (m / 2)) ≡ m / 2 = set_forth n (m / 2) (omega arith) in
    rw (bit_forth m, k) (omega arith)

length_seats : (n m : ℕ) → length (seats_in n m) ≡ n
length_seats zero m = refl
length_seats (suc n) m = ap suc (length_seats n (m / 2))

set_is : (set : List Bool) → length set ≡ 16 → set_of (mask_of set) ≡ set
unfolding set_of
set_is set h = ap (λ (n : ℕ). seats_in n (mask_of set)) (sym h) ∙ set_back set

mask_is : (m : ℕ) → m < 65536 → mask_of (set_of m) ≡ m
unfolding set_of
mask_is m h = set_forth 16 m h

set_sixteen : (m : ℕ) → length (set_of m) ≡ 16
unfolding set_of
set_sixteen m = length_seats 16 m

mask_small : (set : List Bool) → length set ≡ 16 → mask_of set < 65536
mask_small set h = mask_fits set 16 (omega arith)

-- FROM A REPORT TO ITS OCTETS AND BACK

kind_back : (k : Kind) → KindFits k → kind_of (particulars k) ≡ k
unfolding kind_of particulars when◌then◌else◌
kind_back say.Nothing h = refl
kind_back (say.Granted p) h = refl
kind_back (say.Taken s n) h = refl
kind_back (say.Deny n) h = refl
kind_back (say.Idle n) h = refl
kind_back (say.Revoke n) h = refl
kind_back (say.Info k p) h = let l : k < 256 = h.0 in rw (mod-eq_of_lt l)

mark_back : (m : Option ℕ) → MarkFits m → mark_of (seat_octet m) ≡ m
unfolding mark_of when◌then◌else◌
mark_back None h = refl
mark_back (Some s) h = rw (ne_eqb s 255 (λ q. omega (arith, q)))

given_back : (g : Given) → given_of (given_octet g) (how_octet g) ≡ g
unfolding given_of when◌then◌else◌
given_back NotGiven = refl
given_back (AtOnce s) = refl
given_back (OutOfLine s) = refl

message_back : (m : Sending) → MessageFits m → (r : List ℕ) (at : ℕ) → particulars_at r at ≡ particulars m.kind →
    be16 r (at + mask_within) ≡ mask_of m.to
    → sending_at r at ≡ m
unfolding sending_at
message_back m k r at p q = rw (p, q, kind_back m.kind k.kind, set_is m.to k.to)

marks_back : (m : Marks) → MarksFit m →
    record {
      placed = mark_of (seat_octet m.placed);
      struck = set_of (mask_of m.struck);
      ended = mark_of (seat_octet m.ended);
      given = given_of (given_octet m.given) (how_octet m.given);
    } ≡ m
marks_back m k =
    rw (mark_back m.placed k.placed, mark_back m.ended k.ended, set_is m.struck k.struck, given_back m.given)

module _ (p : Report) (k : ReportFits p) where
  first_back : sending_at (octets_of_report p) first_place ≡ p.first
  unfolding octets_of_report octets_of_message marks_octets octets16 particulars_at be16
  first_back =
      message_back p.first k.first (octets_of_report p) first_place (rw (back16 (particulars p.first.kind).number))
      (back16 (mask_of p.first.to))

  second_back : sending_at (octets_of_report p) second_place ≡ p.second
  unfolding octets_of_report octets_of_message marks_octets octets16 particulars_at be16
  second_back =
      message_back p.second k.second (octets_of_report p) second_place (rw (back16 (particulars p.second.kind).number))
      (back16 (mask_of p.second.to))

  all_marks_back : marks_in (octets_of_report p) ≡ p.marks
  unfolding octets_of_report octets_of_message marks_octets octets16 be16 marks_in
  all_marks_back = rw (back16 (mask_of p.marks.struck)) (marks_back p.marks k.marks)

pub says_the_report : SaysTheReport
unfolding report_in
says_the_report p k = rw (first_back p k, second_back p k, all_marks_back p k)

-- FROM OCTETS TO THE REPORT AND BACK

module _ (r : List ℕ) where
  abbrev from : ℕ → ℕ → List ℕ
  from at zero = []
  from at (suc n) = get_or r at 0 ∷ from (suc at) n

  from-drop : (n at : ℕ) → length r ≡ at + n → drop at r ≡ from at n
  from-drop zero at h = let l : length r ≤ at = omega arith in drop_of_length-le r l
  from-drop (suc n) at h = drop-cons r at 0 (omega arith) ∙ ap (λ (l : List ℕ). get_or r at 0 ∷ l) (from-drop n (suc at) (omega arith))

  module _ (o : Octets r) where
    number_small : (at : ℕ) → be16 r at < 65536
    unfolding be16
    number_small at = omega (arith, o at, o (at + 1))

    number_forth : (at : ℕ) → octets16 (be16 r at) ≡ get_or r at 0 ∷ get_or r (at + 1) 0 ∷ []
    unfolding octets16 be16
    number_forth at =
        let a : get_or r at 0 < 256 = o at in
        let b : get_or r (at + 1) 0 < 256 = o (at + 1) in
        let p : (256 * get_or r at 0 + get_or r (at + 1) 0) / 256 ≡ get_or r at 0 = omega arith in
        let q : (256 * get_or r at 0 + get_or r (at + 1) 0) % 256 ≡ get_or r (at + 1) 0 = omega arith in
        rw (p, q)

    set_forth_at : (at : ℕ) → octets16 (mask_of (set_of (be16 r at))) ≡ get_or r at 0 ∷ get_or r (at + 1) 0 ∷ []
    set_forth_at at = rw (mask_is (be16 r at) (number_small at)) (number_forth at)

mark_forth : (n : ℕ) → seat_octet (mark_of n) ≡ n
unfolding mark_of
mark_forth n = by_if (λ (m : Option ℕ). seat_octet m ≡ n) (eqb n 255) (λ q. sym (eqb-true n 255 q)) (λ _. refl)

given_forth : (s how : ℕ) → is_how s how ≡ true → (given_octet (given_of s how) ≡ s) × (how_octet (given_of s how) ≡ how)
unfolding given_of is_how
given_forth s how q =
    let P : Given → Type 0 = λ g. (given_octet g ≡ s) × (how_octet g ≡ how) in
    by_if P (eqb how 1) (λ e. (refl, sym (eqb-true how 1 e)))
    (λ n1. by_if P (eqb how 2) (λ e. (refl, sym (eqb-true how 2 e)))
    (λ n2. by_test (eqb how 0)
    (λ e. (sym (eqb-true s 255 (sym (if_yes (eqb how 0) (eqb s 255) (ltb s 16 && leb how 2) e) ∙ q)), sym (eqb-true how 0 e)))
    (λ n0. absurd (omega (
      arith,
      eqb-false how 0 n0,
      eqb-false how 1 n1,
      eqb-false how 2 n2,
      leb-true how 2 (and_both (ltb s 16) (leb how 2) (sym (if_no (eqb how 0) (eqb s 255) (ltb s 16 && leb how 2) n0) ∙ q)).1,
    )))))

with-same : {a b c d a' b' c' d' : ℕ} → a ≡ a' → b ≡ b' → c ≡ c' → d ≡ d' → with a b c d ≡ with a' b' c' d'
with-same p q r s = cc

alike_same : (q p : Particulars) → alike q p ≡ true → p ≡ q
unfolding alike
alike_same q p e =
    let k : p.kind ≡ q.kind = grind (arith, nat_tests) in
    let s : p.seat ≡ q.seat = grind (arith, nat_tests) in
    let n : p.number ≡ q.number = grind (arith, nat_tests) in
    let r : p.priority ≡ q.priority = grind (arith, nat_tests) in
    with-same k s n r

-- a message that passes its test
pub record IsMessage (q : Particulars) (behind : ℕ) : Type 0 where
  pub same : particulars (kind_of q) ≡ q
  pub alike : alike q (particulars (kind_of q)) ≡ true
  pub seat : q.seat < 16
  pub zero-behind : behind ≡ 0

is_message_lem : (q : Particulars) (behind : ℕ) → is_message q behind ≡ true → IsMessage q behind
unfolding is_message
is_message_lem q behind e =
    let p = particulars (kind_of q) in
    let a = and_three (alike q p) (ltb q.seat 16) (eqb behind 0) e in
    record { same = alike_same q p a.0; alike = a.0; seat = ltb-true q.seat 16 a.1; zero-behind = eqb-true behind 0 a.2 }

module _ (r : List ℕ) (o : Octets r) where
  message_forth : (at : ℕ) → is_message_at r at ≡ true → octets_of_message (sending_at r at)
      ≡ get_or r at 0 ∷ get_or r (at + seat_within) 0 ∷ get_or r (at + number_within) 0 ∷ get_or r (at + number_within + 1) 0
      ∷ get_or r (at + priority_within) 0 ∷ get_or r (at + zero_within) 0 ∷ get_or r (at + mask_within) 0
      ∷ get_or r (at + mask_within + 1) 0 ∷ []
  unfolding octets_of_message sending_at particulars_at
  message_forth at e =
      let m = is_message_lem (particulars_at r at) (get_or r (at + zero_within) 0) e in
      rw (m.same, m.zero-behind, number_forth r o (at + number_within), set_forth_at r o (at + mask_within))

  marks_forth : are_marks r ≡ true → marks_octets (marks_in r) ≡ from r 0 8
  unfolding are_marks marks_octets marks_in
  marks_forth e =
      let a =
      and_five (eqb (get_or r struck_zero 0) 0) (is_mark (get_or r placed_place 0)) (is_mark (get_or r ended_place 0))
      (is_how (get_or r given_place 0) (get_or r how_place 0)) (eqb (get_or r how_zero 0) 0) e in
      let g = given_forth (get_or r given_place 0) (get_or r how_place 0) a.3 in
      rw (
        set_forth_at r o 0,
        mark_forth (get_or r placed_place 0),
        mark_forth (get_or r ended_place 0),
        g.0,
        g.1,
        eqb-true (get_or r struck_zero 0) 0 a.0,
        eqb-true (get_or r how_zero 0) 0 a.4,
      )

-- octets that pass the test of a report
pub record IsReport (r : List ℕ) : Type 0 where
  pub whole : length r ≡ report_size
  pub marks : are_marks r ≡ true
  pub first : is_message_at r first_place ≡ true
  pub second : is_message_at r second_place ≡ true

is_report_lem : (r : List ℕ) → is_report r ≡ true → IsReport r
unfolding is_report
is_report_lem r e =
    let a = and_four (eqb (length r) report_size) (are_marks r) (is_message_at r first_place) (is_message_at r second_place) e in
    record { whole = eqb-true (length r) report_size a.0; marks = a.1; first = a.2; second = a.3 }

pub written_back : ReportWrittenBack
unfolding octets_of_report report_in
written_back r o e =
    let a = is_report_lem r e in
    rw (marks_forth r o a.marks, message_forth r o first_place a.first, message_forth r o second_place a.second)
    (sym (from-drop r report_size 0 a.whole))

-- THE OCTETS OF A REPORT ARE SUCH OCTETS

abbrev Every : List ℕ → Type 0
Every [] = Unit {0}
Every (x ∷ xs) = (x < 256) × Every xs

every_octets : (xs : List ℕ) → Every xs → Octets xs
every_octets [] k i = omega arith
every_octets (x ∷ xs) k zero = k.0
every_octets (x ∷ xs) k (suc i) = every_octets xs k.1 i

high_small : (n : ℕ) → n < 65536 → n / 256 < 256
high_small n h = omega arith

low_small : (n : ℕ) → n % 256 < 256
low_small n = omega arith

pub record ParticularsFit (q : Particulars) : Type 0 where
  pub kind : q.kind < 256
  pub seat : q.seat < 16
  pub number : q.number < 65536
  pub priority : q.priority < 256

particulars_fit : (k : Kind) → KindFits k → ParticularsFit (particulars k)
unfolding particulars
particulars_fit say.Nothing h = record { kind = omega arith; seat = omega arith; number = omega arith; priority = omega arith }
particulars_fit (say.Granted p) h = record { kind = omega arith; seat = omega arith; number = omega arith; priority = h }
particulars_fit (say.Taken s n) h = record { kind = omega arith; seat = h.0; number = h.1; priority = omega arith }
particulars_fit (say.Deny n) h = record { kind = omega arith; seat = omega arith; number = h; priority = omega arith }
particulars_fit (say.Idle n) h = record { kind = omega arith; seat = omega arith; number = h; priority = omega arith }
particulars_fit (say.Revoke n) h = record { kind = omega arith; seat = omega arith; number = h; priority = omega arith }
particulars_fit (say.Info k p) h = record { kind = omega arith; seat = omega arith; number = omega (arith, h.0); priority = h.1 }

message_octets_lem : (m : Sending) (xs : List ℕ) → MessageFits m → Every xs → Every (octets_of_message m ++ xs)
unfolding octets_of_message octets16
message_octets_lem m xs k o =
    let q = particulars m.kind in
    let f = particulars_fit m.kind k.kind in
    let t = mask_of m.to in
    let to : Every (t / 256 ∷ t % 256 ∷ xs) = (high_small t (mask_small m.to k.to), (low_small t, o)) in
    (f.kind, (omega (arith, f.seat), (high_small q.number f.number, (low_small q.number, (f.priority, (omega arith, to))))))

seat_small : (m : Option ℕ) → MarkFits m → seat_octet m < 256
seat_small None h = omega arith
seat_small (Some s) h = omega arith

given_small : (g : Given) → GivenFits g → (given_octet g < 256) × (how_octet g < 256)
given_small NotGiven h = (omega arith, omega arith)
given_small (AtOnce s) h = (omega arith, omega arith)
given_small (OutOfLine s) h = (omega arith, omega arith)

marks-octets : (m : Marks) (xs : List ℕ) → MarksFit m → Every xs → Every (marks_octets m ++ xs)
unfolding marks_octets octets16
marks-octets m xs k o =
    let t = mask_of m.struck in
    let g = given_small m.given k.given in
    let seats : Every (seat_octet m.placed ∷ seat_octet m.ended ∷ given_octet m.given ∷ how_octet m.given ∷ 0 ∷ xs) =
    (seat_small m.placed k.placed, (seat_small m.ended k.ended, (g.0, (g.1, (omega arith, o))))) in
    (high_small t (mask_small m.struck k.struck), (low_small t, (omega arith, seats)))

mark_told : (m : Option ℕ) → MarkFits m → is_mark (seat_octet m) ≡ true
unfolding is_mark
mark_told None h = refl
mark_told (Some s) h = rw (lt-ltb s 16 h)

given_told : (g : Given) → GivenFits g → is_how (given_octet g) (how_octet g) ≡ true
unfolding is_how when◌then◌else◌
given_told NotGiven h = refl
given_told (AtOnce s) h = rw (lt-ltb s 16 h)
given_told (OutOfLine s) h = rw (lt-ltb s 16 h)

marks_told : (p : Report) → ReportFits p → are_marks (octets_of_report p) ≡ true
unfolding are_marks octets_of_report octets_of_message marks_octets octets16
marks_told p k =
    rw (
      mark_told p.marks.placed k.marks.placed,
      mark_told p.marks.ended k.marks.ended,
      given_told p.marks.given k.marks.given,
    )

alike_self : (q : Particulars) → alike q q ≡ true
unfolding alike
alike_self q = rw (same q.kind, same q.seat, same q.number, same q.priority)

message_told : (k : Kind) → KindFits k → is_message (particulars k) 0 ≡ true
unfolding is_message
message_told k h = rw (kind_back k h, alike_self (particulars k), lt-ltb (particulars k).seat 16 (particulars_fit k h).seat)

first_told : (p : Report) → ReportFits p → is_message_at (octets_of_report p) first_place ≡ true
unfolding octets_of_report octets_of_message marks_octets octets16 particulars_at be16
first_told p k = rw (back16 (particulars p.first.kind).number) (message_told p.first.kind k.first.kind)

second_told : (p : Report) → ReportFits p → is_message_at (octets_of_report p) second_place ≡ true
unfolding octets_of_report octets_of_message marks_octets octets16 particulars_at be16
second_told p k = rw (back16 (particulars p.second.kind).number) (message_told p.second.kind k.second.kind)

pub twenty_four : (p : Report) → length (octets_of_report p) ≡ report_size
unfolding octets_of_report octets_of_message marks_octets octets16
twenty_four p = refl

report_told : (p : Report) → ReportFits p → is_report (octets_of_report p) ≡ true
unfolding is_report
report_told p k =
    four (eqb (length (octets_of_report p)) report_size) (are_marks (octets_of_report p)) (is_message_at (octets_of_report p) first_place)
    (is_message_at (octets_of_report p) second_place)
    (eq-eqb (length (octets_of_report p)) report_size (twenty_four p)) (marks_told p k) (first_told p k) (second_told p k)

all_octets : (p : Report) → ReportFits p → Every (octets_of_report p)
unfolding octets_of_report
all_octets p k =
    let two : Every (octets_of_message p.second ++ []) = message_octets_lem p.second [] k.second tt in
    let one : Every (octets_of_message p.first ++ octets_of_message p.second) =
    message_octets_lem p.first _ k.first (rw append-nil at two) in
    simp append_assoc (marks-octets p.marks _ k.marks one)

pub has-octets : HasOctets
has-octets p k = (every_octets (octets_of_report p) (all_octets p k), report_told p k)

-- WHAT SUCH OCTETS SAY IS OF THE SHAPE

mark-fits : (n : ℕ) → is_mark n ≡ true → MarkFits (mark_of n)
unfolding mark_of is_mark
mark-fits n q =
    by_if MarkFits (eqb n 255) (λ _. tt)
    (λ e. by_test (ltb n 16) (λ l. ltb-true n 16 l) (λ l. clash (or_else (ltb n 16) (eqb n 255) l q) e))

given-fits : (s how : ℕ) → is_how s how ≡ true → GivenFits (given_of s how)
unfolding given_of is_how
given-fits s how q =
    by_if GivenFits (eqb how 1) (λ e. small (omega (arith, eqb-true how 1 e)))
    (λ _. by_if GivenFits (eqb how 2) (λ e. small (omega (arith, eqb-true how 2 e))) (λ _. tt))
  where
    small : 0 < how → s < 16
    small h =
        ltb-true s 16 (and_both (ltb s 16) (leb how 2)
        (sym (if_no (eqb how 0) (eqb s 255) (ltb s 16 && leb how 2) (ne_eqb how 0 (λ z. omega (arith, z)))) ∙ q)).0

kind_fits : (q : Particulars) → q.seat < 16 → q.number < 65536 → q.priority < 256 → KindFits (kind_of q)
unfolding kind_of
kind_fits q s n p =
    by_if KindFits (eqb q.kind 1) (λ _. p)
    (λ _. by_if KindFits (eqb q.kind 2) (λ _. (s, n))
    (λ _. by_if KindFits (eqb q.kind 3) (λ _. n)
    (λ _. by_if KindFits (eqb q.kind 5) (λ _. n)
    (λ _. by_if KindFits (eqb q.kind 6) (λ _. n)
    (λ _. by_if KindFits (eqb q.kind 9) (λ _. (omega arith, p)) (λ _. tt))))))

module _ (r : List ℕ) (o : Octets r) where
  number_at : (at : ℕ) → (particulars_at r at).number < 65536
  unfolding particulars_at
  number_at at = number_small r o (at + number_within)

  priority_at : (at : ℕ) → (particulars_at r at).priority < 256
  unfolding particulars_at
  priority_at at = o (at + priority_within)

  message_fits : (at : ℕ) → is_message_at r at ≡ true → MessageFits (sending_at r at)
  unfolding sending_at
  message_fits at e =
      record {
        kind =
            kind_fits (particulars_at r at) (is_message_lem (particulars_at r at) (get_or r (at + zero_within) 0) e).seat (number_at at)
            (priority_at at);
        to = set_sixteen (be16 r (at + mask_within));
      }

  marks_fit : are_marks r ≡ true → MarksFit (marks_in r)
  unfolding are_marks marks_in
  marks_fit e =
      let a =
      and_five (eqb (get_or r struck_zero 0) 0) (is_mark (get_or r placed_place 0)) (is_mark (get_or r ended_place 0))
      (is_how (get_or r given_place 0) (get_or r how_place 0)) (eqb (get_or r how_zero 0) 0) e in
      record {
        placed = mark-fits (get_or r placed_place 0) a.1;
        struck = set_sixteen (be16 r struck_place);
        ended = mark-fits (get_or r ended_place 0) a.2;
        given = given-fits (get_or r given_place 0) (get_or r how_place 0) a.3;
      }

pub says_a_report : SaysAReport
unfolding report_in
says_a_report r o e =
    let a = is_report_lem r e in
    record { first = message_fits r o 8 a.first; second = message_fits r o 16 a.second; marks = marks_fit r o a.marks }

-- THE MESSAGES THAT ARE WRITTEN AS PACKETS

said_so : (r : List ℕ) (at : ℕ) → is_message_at r at ≡ true →
    said_by (particulars_at r at) (get_or r (at + zero_within) 0) ≡ Some (sending_at r at).kind
unfolding said_by sending_at when◌then◌else◌
said_so r at e =
    let m = is_message_lem (particulars_at r at) (get_or r (at + zero_within) 0) e in
    rw (m.alike, m.zero-behind)

pub same_messages : SameMessages
unfolding told_in report_in when◌then◌else◌
same_messages r e =
    let a = is_report_lem r e in
    let l : eqb (length r) report_size ≡ true = eq-eqb (length r) report_size a.whole in
    (rw l (said_so r first_place a.first), rw l (said_so r second_place a.second))
