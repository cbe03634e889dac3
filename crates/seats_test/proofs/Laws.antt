-- Laws of the test of a seat: its flags, its length, a seat that is free, and the search for the lowest seat. Assumes nothing.
use Prim.Native.Nat.{ℕ, zero, suc, ◌+◌, ◌-◌, ◌≤◌, ◌<◌}
use mathlib.Core.Path.{◌≡◌, refl, ap, sym, ◌∙◌}
use mathlib.Core.Bool.{Bool, true, false, not, ◌&&◌}
use mathlib.Core.List.{List}
use native.Mathlib.Nat.{add-zero}
use native.Mathlib.Omega.{arith}
use lib.Dec.{eqb, leb}
use lib.ListN.{length}
use borrow.Author.Tests.{eqb-true, eqb-false, eq-eqb, ne_eqb, not-true}
use Rattle.octets.specs.Octets.{nth_octet}
use Rattle.words.specs.Choice.{if_yes, if_no, by_test}
use Rattle.words.specs.Below.{all_below, below}
use Rattle.std.proofs.lemmas.Bool.Decides.{nat_tests}
use Rattle.words.proofs.Tests.{and_no}
use Rattle.std.specs.Prelude.{Option, Some}
use Rattle.hall.specs.Seats.{first_from, lowest, finds}
use Rattle.identities.specs.Identity.{length_allowed}
use Rattle.hall.proofs.Laws.{at_same}
use Rattle.desk_octets.specs.Places.{taken_column, flags_column}
use Rattle.desk_octets.specs.Form.{up_to, hall_fits}
use Rattle.seat_octets.specs.Layout.{flags_octet, flags_of, flags_top}
use Rattle.seat_octets.proofs.Bits.{flags_forth}
use Rattle.desk_octets.proofs.Tests.{all_below_lem, together}
use Rattle.desk_octets.proofs.Facts.{up_to_lem, hall_facts}
use Rattle.seats_test.specs.Seated.{name_length_at, identity_start, zeros_behind, taken_fits, free_fits, seat_fits}
use Rattle.seats_test.proofs.Same.{finds-at}

-- an octet of flags is zero exactly if it says none
pub flags_zero : (s : List ℕ) → hall_fits s ≡ true → (seat : ℕ) → seat < 16 →
    eqb (nth_octet s (flags_column + seat)) 0 ≡ eqb (flags_octet (flags_of (nth_octet s (flags_column + seat)))) 0
flags_zero s q seat b =
    ap (λ (n : ℕ). eqb n 0)
    (sym (flags_forth (nth_octet s (flags_column + seat)) (up_to_lem flags_top s flags_column 16 (hall_facts s q).flags seat b)))

-- of a length that is at most 62 already, only the least is asked
pub allowed_by_least : (n : ℕ) (o : List ℕ) → n ≡ length o → n ≤ 62 → leb 1 n ≡ length_allowed o
unfolding length_allowed
allowed_by_least n o e h = grind (arith, nat_tests)

no_length : (s : List ℕ) (seat : ℕ) → free_fits s seat ≡ true → name_length_at s seat ≡ 0
unfolding free_fits
no_length s seat q = grind (arith, nat_tests)

-- a taken seat is asked for the zeros behind its identity
pub taken_whole : (s : List ℕ) (seat : ℕ) → nth_octet s (taken_column + seat) ≡ 1 →
    (zeros_behind s seat && taken_fits s seat) ≡ seat_fits s seat
unfolding seat_fits
taken_whole s seat e = rw (if_yes _ _ _ (eq-eqb _ _ e))

-- of a free seat, that has no identity, all sixty_two octets are asked
pub free_whole : (s : List ℕ) (seat : ℕ) →
    (up_to 0 s (identity_start seat) 62 && free_fits s seat) ≡ (zeros_behind s seat && free_fits s seat)
unfolding zeros_behind
free_whole s seat =
    by_test (free_fits s seat)
    (λ t. rw (no_length s seat t, add-zero (identity_start seat)))
    (λ t. and_no (up_to 0 s (identity_start seat) 62) (free_fits s seat) t
    ∙ sym (and_no (up_to 0 s (identity_start seat + name_length_at s seat) (62 - name_length_at s seat)) (free_fits s seat) t))

-- so a seat that is not taken is in the form
pub not_taken_whole : (s : List ℕ) (seat : ℕ) → ¬ (nth_octet s (taken_column + seat) ≡ 1) →
    (up_to 0 s (identity_start seat) 62 && free_fits s seat) ≡ seat_fits s seat
unfolding seat_fits
not_taken_whole s seat e = rw (if_no _ _ _ (ne_eqb _ _ e)) (free_whole s seat)

-- the search for the lowest seat finds a seat that passes exactly if none before it does
module _ (p : ℕ → Bool) where
  first_is : (n b s : ℕ) → b ≤ s → s < b + n → p s ≡ true → ((j : ℕ) → b ≤ j → j < s → p j ≡ false) → first_from p n b ≡ Some s
  first_is zero b s h k q f = absurd (omega arith)
  first_is (suc n) b s h k q f =
      by_test (eqb b s)
      (λ t. let e : b ≡ s = eqb-true b s t in if_yes (p b) (Some b) (first_from p n (suc b)) (ap p e ∙ q) ∙ ap Some e)
      (λ t. let l : b < s = omega (arith, eqb-false b s t) in
      if_no (p b) (Some b) (first_from p n (suc b)) (f b (omega arith) l)
      ∙ first_is n (suc b) s l (omega arith) q (λ j u v. f j (omega arith) v))

  first_before : (n b s : ℕ) → first_from p n b ≡ Some s → (j : ℕ) → b ≤ j → j < s → p j ≡ false
  first_before zero b s q j u v = let z : ◌≡◌ {A = ℕ} 0 1 = cc in absurd (omega arith)
  first_before (suc n) b s q j u v =
      by_test (p b)
      (λ t. let e : b ≡ s = at_same (sym (if_yes (p b) (Some b) (first_from p n (suc b)) t) ∙ q) in absurd (omega arith))
      (λ t. by_test (eqb b j)
      (λ m. ap p (sym (eqb-true b j m)) ∙ t)
      (λ m. first_before n (suc b) s (sym (if_no (p b) (Some b) (first_from p n (suc b)) t) ∙ q) j (omega (arith, eqb-false b j m)) v))

  pub finds-lowest : (s : ℕ) → s < 16 → p s ≡ true → finds (lowest p) s ≡ all_below (λ j. not (p j)) s
  finds-lowest s b q =
      together (finds (lowest p) s) (all_below (λ j. not (p j)) s)
      (λ e. all_below_lem (λ j. not (p j)) s (λ j l. ap not (first_before 16 0 s (finds-at (lowest p) s e) j (omega arith) l)))
      (λ e. ap (λ (f : Option ℕ). finds f s)
      (first_is 16 0 s (omega arith) (omega arith) q (λ j _ l. not-true (p j) (below (λ k. not (p k)) s e j l)))
      ∙ eq-eqb s s refl)
