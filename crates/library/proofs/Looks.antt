-- What `floor_screen`, `floor_holder` and `floor_phase` show is the line, the holder and the phase of the desk that the octets stand for.
-- Assumes nothing.
use Prim.Native.Nat.{ℕ, zero, suc, ◌+◌, ◌*◌, ◌≤◌, ◌<◌}
use native.Mathlib.Nat.{add-zero, zero-add}
use native.Mathlib.Omega.{arith}
use mathlib.Core.Path.{◌≡◌, refl, ap, sym, ◌∙◌}
use mathlib.Core.Bool.{true, false}
use mathlib.Core.List.{List, ◌++◌}
use lib.Dec.{leb}
use lib.IntN.{ℤ, pos, negsuc}
use lib.ListN.{length, get_or, drop}
use borrow.Author.Tests.{le-leb}
use Rattle.words.specs.Choice.{when◌then◌else◌, by_test}
use Rattle.octets.specs.Octets.{over, Octets}
use Rattle.message.specs.Answers.{refused, result}
use Rattle.line.specs.declared.Entry.{Entry}
use Rattle.line.specs.Line.{waiting, empty}
use Rattle.steps.specs.declared.Phase.{Phase}
use Rattle.steps.specs.declared.Phase.TheVariants.{Stopped, Idle, Taken, Revoking}
use Rattle.giving.specs.Floor.{holds}
use Rattle.line.specs.Line.{entry_of}
use Rattle.timers.specs.Timers.{is_stopped}
use Rattle.marks.specs.Marks.{is_seat}
use Rattle.reach.proofs.Hall.{hall_ok}
use Rattle.desk_octets.specs.Form.{kind_octet, core_at, hall_at, names_at}
use Rattle.desk_octets.specs.Columns.{rows}
use Rattle.desk_octets.proofs.Columns.{column_is_from_0, column-same, shift}
use Rattle.desk_test.specs.Lent.{formed}
use Rattle.signed.specs.Signed.{answers, signed}
use Rattle.desk_looking.specs.Looking.{holder_seat, pair_at, pairs, screened, screen_on}
use Rattle.floor.specs.Promises.{ScreenPromise, PhasePromise}
use Rattle.desk_looking.proofs.Looks.{looks_so}
use Rattle.floor_laws.proofs.Desks.{right_at}
use Rattle.library.specs.Library.{Look, entries_in, seat_answered, line, holder}

-- two octets an entry
module _ (es : List Entry) (rest : List ℕ) where
  pair_at_lem : (n at i : ℕ) → i < n →
      (get_or (rows (pair_at es) at n ++ rest) (2 * i) 0 ≡ (get_or es (at + i) empty).seat)
      × (get_or (rows (pair_at es) at n ++ rest) (2 * i + 1) 0 ≡ (get_or es (at + i) empty).priority)
  unfolding rows
  pair_at_lem zero at i h = absurd (omega arith)
  pair_at_lem (suc n) at zero h = rw (add-zero at) (refl, refl)
  pair_at_lem (suc n) at (suc i) h =
      let e : 2 * suc i ≡ suc (suc (2 * i)) = omega arith in
      let f : suc (suc (2 * i)) + 1 ≡ suc (suc (2 * i + 1)) = omega arith in
      let r = pair_at_lem n (suc at) i (omega arith) in
      rw (e, f, ← shift at i) r

same_entry : {a b a' b' : ℕ} → a ≡ a' → b ≡ b' → entry_of a b ≡ entry_of a' b'
same_entry p q = cc

entries_back : (es : List Entry) (room : List ℕ) → entries_in (over room 0 (pairs es)) (length es) ≡ es
unfolding over pairs
entries_back es room =
    let r = drop (0 + length (pairs es)) room in
    column-same _ (λ i. get_or es i empty) 0 0 (length es)
    (λ i h. let p = rw (zero-add i) at (pair_at_lem es r (length es) 0 i h) in rw (zero-add i) (same_entry p.0 p.1))
    ∙ sym (column_is_from_0 (λ i. get_or es i empty) es (length es) empty refl (λ i h. refl))

module _ (d room : List ℕ) (q : formed d ≡ true) where
  abbrev es : List Entry
  es = waiting (core_at d).line

  screens : leb (2 * length es) (length room) ≡ true → screen_on d room ≡ answers (result (length es)) (over room 0 (pairs es))
  unfolding screened when◌then◌else◌
  screens l = rw (q, l)

  screens_not : leb (2 * length es) (length room) ≡ false → screen_on d room ≡ answers (refused 13) room
  unfolding screened when◌then◌else◌
  screens_not l = rw (q, l)

  shown_so : (n : ℕ) (shown : List ℕ) → ScreenPromise d room (pos n) shown → entries_in shown n ≡ es
  shown_so n shown p =
      by_test (leb (2 * length es) (length room))
      (λ l. let e : (pos n, shown) ≡ answers (result (length es)) (over room 0 (pairs es)) = p ∙ screens l in
      let a : pos n ≡ pos (length es) = ap (λ (w : ℤ × List ℕ). w.0) e in
      let m : n ≡ length es = cc in
      let s : shown ≡ over room 0 (pairs es) = ap (λ (w : ℤ × List ℕ). w.1) e in
      rw (m, s) (entries_back es room))
      (λ l. let e : (pos n, shown) ≡ answers (refused 13) room = p ∙ screens_not l in
      let a : pos n ≡ negsuc 12 = ap (λ (w : ℤ × List ℕ). w.0) e in
      let z : ◌≡◌ {A = ℕ} 0 1 = cc in absurd (omega arith))

pub line-seen : (d : List ℕ) → formed d ≡ true → (l : Look d) → line l ≡ waiting (core_at d).line
line-seen d q l = shown_so d l.room q l.count l.shown l.screen

-- a line has at most fifteen entries
pub enough : (d room : List ℕ) (a : ℤ) (room' : List ℕ) → Octets d → formed d ≡ true → ScreenPromise d room a room' → 30 ≤ length room →
    (n : ℕ) × (a ≡ pos n)
enough d room a room' o q p b =
    let k = (right_at d o q).sound in
    let n = length (waiting (core_at d).line) in
    let m : n ≤ 15 = omega (arith, k.core.line.list.within, (hall_ok (hall_at d) (names_at d) k.seats).limit) in
    (n, ap (λ (w : ℤ × List ℕ). w.0) (p ∙ screens d room q (le-leb (2 * n) (length room) (omega arith))))

-- the holder
holder_so : (p : Phase) (s : ℕ) → is_seat (seat_answered (signed (holder_seat p))) s ≡ holds p s
holder_so Stopped s = refl
holder_so (Idle t7) s = refl
holder_so (Taken e b) s = refl
holder_so (Revoking e n) s = refl

pub holder-seen : (d : List ℕ) → formed d ≡ true → (l : Look d) (s : ℕ) → is_seat (holder l) s ≡ holds (core_at d).phase s
holder-seen d q l s =
    ap (λ (a : ℤ). is_seat (seat_answered a) s) (l.holder ∙ looks_so d (holder_seat (core_at d).phase) q)
    ∙ holder_so (core_at d).phase s

-- the phase
going_on : (p : Phase) (k : ℕ) → suc k ≡ kind_octet p → is_stopped p ≡ false
going_on Stopped k e = absurd (omega (arith, e))
going_on (Idle t7) k e = refl
going_on (Taken x b) k e = refl
going_on (Revoking x n) k e = refl

pub phase_seen : (d : List ℕ) → formed d ≡ true → (k : ℕ) → PhasePromise d (pos (suc k)) → is_stopped (core_at d).phase ≡ false
phase_seen d q k p =
    let e : pos (suc k) ≡ pos (kind_octet (core_at d).phase) = p ∙ looks_so d (result (kind_octet (core_at d).phase)) q in
    going_on (core_at d).phase k (cc)
