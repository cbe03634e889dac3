-- The pieces of a desk's octets: what was written in pieces is the whole, and an identity is a part of the octets. Assumes nothing.
use Rattle.desk_octets.specs.Places.{lengths_column, identities_column, desk_size}
use Prim.Native.Nat.{ℕ, ◌+◌, ◌*◌, ◌-◌, ◌≤◌, ◌<◌, min}
use native.Mathlib.Nat.{zero-add, min-eq_left, min-eq_right, le_of_lt}
use native.Mathlib.Omega.{arith}
use mathlib.Core.Path.{◌≡◌, sym, ap, ◌∙◌}
use mathlib.Core.List.{List, [], ◌∷◌, ◌++◌, append_assoc}
use lib.Dec.{leb}
use lib.ListN.{length, get_or, take, drop, replicate, get_or-eq_default, length-drop}
use lib.Seq.{get_or-take, get_or-drop, take-take, take_all, length-take-le}
use borrow.Author.Tests.{leb-true, leb-false}
use Rattle.words.specs.Choice.{by_test}
use Rattle.octets.specs.Octets.{octets16, part, nth_octet}
use Rattle.line.specs.declared.Entry.{Entry}
use Rattle.line.specs.declared.Line.{Line}
use Rattle.line.specs.Line.{waiting}
use Rattle.hall.specs.declared.Hall.{Hall}
use Rattle.identities.specs.declared.Name.{Name}
use Rattle.identities.specs.Identity.{name_at, no_name}
use Rattle.identities.specs.Identity as identity
use Rattle.steps.specs.declared.Phase.{Phase}
use Rattle.steps.specs.declared.Core.{Core}
use Rattle.desk_octets.specs.Columns.{column}
use Rattle.seat_octets.specs.Layout.{settings_octets}
use Rattle.desk_octets.specs.Form.{kind_octet, timers_octet, holder_in, cause_in, phase_octets, entry_seat, entry_priority, line_octets}
use Rattle.desk_octets.specs.Form.{core_octets}
use Rattle.desk_octets.specs.Form.{bool_octets, octet_column, seat_flags_octets, word_column, hall_octets, name_octets, name_in}
use Rattle.desk_octets.specs.Form.{names_at}
use Rattle.desk_octets.proofs.Columns.{length-column, get_d_column, column_is}

pub phase_whole : (p : Phase) (kind timers : ℕ) (holder : Entry) (cause : ℕ) →
    kind ≡ kind_octet p → timers ≡ timers_octet p → holder ≡ holder_in p → cause ≡ cause_in p →
    ((kind ∷ timers ∷ []) ++ (holder.seat ∷ holder.priority ∷ [])) ++ octets16 cause ≡ phase_octets p
unfolding phase_octets
phase_whole p kind timers holder cause a b c d = rw (a, b, c, d)

pub line_whole : (l : Line) (count : ℕ) → count ≡ length (waiting l) →
    ((((count ∷ 0 ∷ []) ++ column (entry_seat l.entries) 0 15) ++ replicate 1 0) ++ column (entry_priority l.entries) 0 15)
    ++ replicate 1 0
    ≡ line_octets l
unfolding line_octets column
line_whole l count e = rw e

pub core_whole : (c : Core) →
    ((phase_octets c.phase ++ octets16 c.sequence) ++ (c.c7 ∷ c.c20 ∷ [])) ++ line_octets c.line ≡ core_octets c
unfolding core_octets
core_whole c = simp append_assoc

pub hall_whole : (h : Hall) →
    (((((bool_octets h.present ++ word_column h.ssrcs) ++ octet_column h.highest) ++ seat_flags_octets h.flags) ++ replicate 16 0)
    ++ settings_octets h.settings) ++ replicate 4 0 ≡ hall_octets h
unfolding hall_octets
hall_whole h = simp append_assoc

pub length-name : (n : Name) → length (name_octets n) ≡ 62
unfolding name_octets
length-name n = length-column (λ i. get_or n.octets i 0) 0 62

-- a column of the octets themselves is a part of them
pub column-part : (s : List ℕ) (at n : ℕ) → at + n ≤ length s → column (nth_octet s) at n ≡ take n (drop at s)
column-part s at n h =
    let l : length (take n (drop at s)) ≡ n = length-take-le n (drop at s) (simp length-drop (omega arith)) in
    sym (column_is (nth_octet s) (take n (drop at s)) at n 0 l (λ i k. get_or-take n (drop at s) i 0 k ∙ get_or-drop at s i 0))

pub part-column : (s : List ℕ) (at n : ℕ) → at + n ≤ length s → part s at n ≡ column (nth_octet s) at n
unfolding part
part-column s at n h = sym (column-part s at n h)

take-two : (n m : ℕ) (l : List ℕ) → length (take m l) ≡ m → take n (take m l) ≡ take (min n m) l
take-two n m l e =
    by_test (leb n m)
    (λ t. let h : n ≤ m = leb-true n m t in take-take n m l h ∙ ap (λ (k : ℕ). take k l) (sym (min-eq_left h)))
    (λ t. let h : m ≤ n = le_of_lt (leb-false n m t) in
    take_all n (take m l) (omega arith) ∙ ap (λ (k : ℕ). take k l) (sym (min-eq_right h)))

pub name_of_seat : (s : List ℕ) (seat : ℕ) → seat < 16 → name_at (names_at s) seat ≡ name_in s seat
unfolding names_at
name_of_seat s seat h = get_d_column (name_in s) 0 16 seat no_name h ∙ ap (name_in s) (zero-add seat)

identity_of : (s : List ℕ) (seat : ℕ) → seat < 16 → desk_size ≤ length s →
    identity.octets_of (name_in s seat) ≡ take (min (nth_octet s (lengths_column + seat)) 62) (drop (identities_column + 62 * seat) s)
unfolding identity.octets_of name_in
identity_of s seat h k =
    let fits : identities_column + 62 * seat + 62 ≤ length s = omega arith in
    let l : length (take 62 (drop (identities_column + 62 * seat) s)) ≡ 62 =
    length-take-le 62 (drop (identities_column + 62 * seat) s) (simp length-drop (omega arith)) in
    rw (column-part s (identities_column + 62 * seat) 62 fits)
    (take-two (nth_octet s (lengths_column + seat)) 62 (drop (identities_column + 62 * seat) s) l)

-- the identity of a seat, as the code cuts it out of the octets
pub identity_is : (s : List ℕ) (seat at len count : ℕ) → at ≡ seat → len ≡ nth_octet s (lengths_column + at) → count ≡ min len 62 →
    at < 16 →
    desk_size ≤ length s →
    take (identities_column + 62 * at + count - (identities_column + 62 * at)) (drop (identities_column + 62 * at) s)
    ≡ identity.octets_of (name_at (names_at s) seat)
identity_is s seat at len count a b c h k =
    let cut : identities_column + 62 * at + count - (identities_column + 62 * at) ≡ count = omega arith in
    let n : count ≡ min (nth_octet s (lengths_column + at)) 62 = c ∙ ap (λ (x : ℕ). min x 62) b in
    rw (cut, n) (sym (identity_of s at h k) ∙ ap identity.octets_of (sym (name_of_seat s at h))
    ∙ ap (λ (x : ℕ). identity.octets_of (name_at (names_at s) x)) a)

pub no_identity : (s : List ℕ) (seat : ℕ) → 16 ≤ seat → [] ≡ identity.octets_of (name_at (names_at s) seat)
unfolding identity.octets_of names_at
no_identity s seat h =
    let e : name_at (names_at s) seat ≡ no_name =
    get_or-eq_default (column (name_in s) 0 16) no_name (rw (length-column (name_in s) 0 16) h) in
    ap identity.octets_of (sym e)
