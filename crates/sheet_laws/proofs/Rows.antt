-- Seats that join one after the other into an empty hall sit in a row: the first k seats are taken, in order, and the others are free.
-- Assumes nothing.
use Prim.Native.Nat.{ℕ, zero, suc, ◌+◌, ◌≤◌, ◌<◌}
use native.Mathlib.Omega.{arith}
use mathlib.Core.Bool.{Bool, true, false, not}
use mathlib.Core.List.{List, []}
use mathlib.Core.Path.{◌≡◌, refl, sym, ap, ◌∙◌}
use lib.Dec.{ltb, eqb}
use lib.ListN.{length, get_or, drop, length-set, get_or-replicate, drop_of_length-le}
use lib.Seq.{get_or-set_same, get_or-set_other, drop-cons}
use borrow.Author.Tests.{eqb-true, eqb-false, lt-ltb, le-ltb, ltb-true, ltb-false}
use Rattle.std.proofs.lemmas.Bool.Decides.{nat_tests}
use Rattle.words.specs.Choice.{when◌then◌else◌, by_test}
use Rattle.hall.specs.declared.Settings.{Settings}
use Rattle.hall.specs.declared.Newcomer.{Newcomer}
use Rattle.identities.specs.declared.Name.{Name}
use Rattle.identities.specs.declared.Names.{Names}
use Rattle.hall.specs.declared.Hall.{Hall}
use Rattle.std.proofs.Common.{Some, None}
use Rattle.hall.specs.Seats.{no_flags, empty_hall, is_present, first_from, free_seat, with_seat, no_one}
use Rattle.identities.specs.Identity.{octets_of, name_of, no_name, no_names, Sixteen, with_name, length_allowed}
use Rattle.identities.proofs.Naming.{allowed_short, name-octets}
use Rattle.sheet.specs.Layout.{Seat, seat_at, seats_from, seats_of}

-- a search: the lowest seat where a test holds, and none where it holds nowhere
pub first_at : (test : ℕ → Bool) (n s k : ℕ) → s ≤ k → k < s + n → ((i : ℕ) → i < k → test i ≡ false) → test k ≡ true →
    first_from test n s ≡ Some k
unfolding when◌then◌else◌
first_at test zero s k l h f t = absurd (omega arith)
first_at test (suc n) s k l h f t =
    by_test (eqb s k) (λ e. let q : s ≡ k = eqb-true s k e in rw (q, t))
    (λ e.
    let lt : s < k = omega (arith, eqb-false s k e) in
    rw (f s lt) (first_at test n (suc s) k (omega arith) (omega arith) f t))

pub first_none : (test : ℕ → Bool) (n s : ℕ) → ((i : ℕ) → i < s + n → test i ≡ false) → first_from test n s ≡ None
unfolding when◌then◌else◌
first_none test zero s f = refl
first_none test (suc n) s f = rw (f s (omega arith)) (first_none test n (suc s) (λ i h. f i (omega arith)))

pub sixteen_with : (h : Hall) (ns : Names) (s : ℕ) (here : Bool) (n : Newcomer) (name : Name) → Sixteen h ns →
    Sixteen (with_seat h s here n) (with_name ns s name)
unfolding with_seat with_name
sixteen_with h ns s here n name l = (
  length-set h.present s here ∙ l.0,
  length-set h.ssrcs s n.ssrc ∙ l.1,
  length-set h.highest s n.highest ∙ l.2,
  length-set h.flags s n.flags ∙ l.3,
  length-set ns.«of» s name ∙ l.4,
)

-- what stands at a seat once one seat is set: the new, or what stood there
module _ (h : Hall) (ns : Names) (s : ℕ) (here : Bool) (n : Newcomer) (name : Name) where
  pub present_other : (i : ℕ) → (i ≡ s → ⊥) → is_present (with_seat h s here n) i ≡ is_present h i
  unfolding with_seat
  present_other i d = get_or-set_other h.present s i here false d

  pub seat_other : (i : ℕ) → (i ≡ s → ⊥) → seat_at (with_seat h s here n) (with_name ns s name) i ≡ seat_at h ns i
  unfolding with_seat with_name
  seat_other i d =
      rw (
        get_or-set_other h.ssrcs s i n.ssrc 0 d,
        get_or-set_other h.highest s i n.highest 0 d,
        get_or-set_other h.flags s i n.flags no_flags d,
        get_or-set_other ns.«of» s i name no_name d,
      )

  module _ (l : Sixteen h ns) (w : s < 16) where
    pub present_same : is_present (with_seat h s here n) s ≡ here
    unfolding with_seat
    present_same = get_or-set_same h.present s here false (omega (arith, l.0))

    pub seat_same : seat_at (with_seat h s here n) (with_name ns s name) s ≡ record { who = n; identity = octets_of name }
    unfolding with_seat with_name
    seat_same =
        rw (
          get_or-set_same h.ssrcs s n.ssrc 0 (omega (arith, l.1)),
          get_or-set_same h.highest s n.highest 0 (omega (arith, l.2)),
          get_or-set_same h.flags s n.flags no_flags (omega (arith, l.3)),
          get_or-set_same ns.«of» s name no_name (omega (arith, l.4)),
        )

-- a seat past the end of a list, where a list's look-up asks for one
abbrev pub nobody : Seat
nobody = record { who = no_one; identity = [] }

pub record Row (h : Hall) (ns : Names) (zs : List Seat) (k : ℕ) : Type 0 where
  pub long : Sixteen h ns
  pub present : (i : ℕ) → i < 16 → is_present h i ≡ ltb i k
  pub seats : (i : ℕ) → i < k → seat_at h ns i ≡ get_or zs i nobody

pub row-starts : (st : Settings) (zs : List Seat) → Row (empty_hall st) no_names zs 0
unfolding empty_hall no_names
row-starts st zs =
    record {
      long = (refl, refl, refl, refl, refl);
      present = λ i h. get_or-replicate 16 i false false h ∙ sym (le-ltb i 0 (omega arith));
      seats = λ i h. absurd (omega arith);
    }

module _ (h : Hall) (ns : Names) (zs : List Seat) (k : ℕ) (row : Row h ns zs k) (w : k < 16) where
  pub row_free : free_seat h ≡ Some k
  unfolding free_seat
  row_free =
      first_at (λ (s : ℕ). not (is_present h s)) 16 0 k (omega arith) (omega arith)
      (λ i l. ap not (row.present i (omega arith) ∙ lt-ltb i k l)) (ap not (row.present k w ∙ le-ltb k k (omega arith)))

  pub row_on : length_allowed (get_or zs k nobody).identity ≡ true
      → Row (with_seat h k true (get_or zs k nobody).who) (with_name ns k (name_of (get_or zs k nobody).identity)) zs (k + 1)
  row_on a =
      let x = get_or zs k nobody in
      let name = name_of x.identity in
      record {
        long = sixteen_with h ns k true x.who name row.long;
        present =
            λ i l.
            by_test (eqb i k)
            (λ e.
            let q : i ≡ k = eqb-true i k e in
            rw q (present_same h ns k true x.who name row.long w ∙ sym (lt-ltb k (k + 1) (omega arith))))
            (λ e.
            let d = eqb-false i k e in
            present_other h ns k true x.who name i d ∙ row.present i l ∙ below_same i k d);
        seats =
            λ i l.
            by_test (eqb i k)
            (λ e.
            let q : i ≡ k = eqb-true i k e in
            rw q
            (seat_same h ns k true x.who name row.long w
            ∙ ap (λ (o : List ℕ). record { who = x.who; identity = o }) (name-octets x.identity (allowed_short x.identity a))))
            (λ e.
            let d = eqb-false i k e in
            seat_other h ns k true x.who name i d ∙ row.seats i (omega (arith, d)));
      }
    where
      below_same : (i k : ℕ) → (i ≡ k → ⊥) → ltb i k ≡ ltb i (k + 1)
      below_same i k d = grind (arith, nat_tests)

-- the seats of a hall whose row is the whole list
module _ (h : Hall) (ns : Names) (zs : List Seat) (few : length zs ≤ 16) (row : Row h ns zs (length zs)) where
  none_left : (s : ℕ) → length zs ≤ s → drop s zs ≡ []
  none_left s l = drop_of_length-le zs l

  row_from : (n s : ℕ) → s + n ≡ 16 → seats_from h ns n s ≡ drop s zs
  unfolding when◌then◌else◌
  row_from zero s e = sym (none_left s (omega arith))
  row_from (suc n) s e =
      by_test (ltb s (length zs))
      (λ t.
      let l : s < length zs = ltb-true s (length zs) t in
      rw (row.present s (omega arith) ∙ t, row.seats s l, row_from n (suc s) (omega arith)) (sym (drop-cons zs s nobody l)))
      (λ t.
      let l : length zs ≤ s = ltb-false s (length zs) t in
      rw (row.present s (omega arith) ∙ t, row_from n (suc s) (omega arith), none_left s l) (none_left (suc s) (omega arith)))

  pub row_seats : seats_of h ns ≡ zs
  unfolding seats_of
  row_seats = row_from 16 0 refl
