-- The hall gone through seat by seat: what the seats from one on put on the sheet. Assumes nothing.
use Prim.Native.Nat.{ℕ, suc, ◌+◌, ◌-◌, ◌≤◌, ◌<◌}
use native.Mathlib.Omega.{arith}
use native.Mathlib.Nat.{zero-add}
use native.Mathlib.Numerals.{add-one}
use mathlib.Core.List.{List, [], ◌++◌, append_assoc, append-nil}
use mathlib.Core.Path.{◌≡◌, refl, sym, ap, ◌∙◌}
use lib.ListN.{length, length-append}
use Rattle.words.specs.Choice.{when◌then◌else◌, one, by_test}
use Rattle.octets.specs.Octets.{over}
use Rattle.octets.proofs.Over.{over_none, over-two}
use Rattle.hall.specs.declared.Hall.{Hall}
use Rattle.hall.specs.Seats.{is_present}
use Rattle.identities.specs.declared.Names.{Names}
use Rattle.seat_octets.specs.Layout.{settings_size, settings_octets}
use Rattle.seat_octets.proofs.SettingsLaws.{settings_long}
use Rattle.sheet.specs.Layout.{Seat, seats_octets, seats_from, seats_of, trailer, sheet, sheet_of}
use Rattle.seat_saving.specs.Seat.{octets_at_seat}

pub over_front : (room xs ys : List ℕ) → over (over room 0 xs) (length xs) ys ≡ over room 0 (xs ++ ys)
over_front room xs ys =
    ap (λ (n : ℕ). over (over room 0 xs) n ys) (sym (zero-add (length xs))) ∙ over-two room 0 xs ys (omega arith)

module _ (h : Hall) (ns : Names) where
  module _ (n s : ℕ) where
    one-octets : seats_octets (seats_from h ns (suc n) s) ≡ octets_at_seat h ns s ++ seats_octets (seats_from h ns n (suc s))
    unfolding octets_at_seat seats_octets when◌then◌else◌
    one-octets = by_test (is_present h s) (λ e. rw e) (λ e. rw e)

    one_count : length (seats_from h ns (suc n) s) ≡ one (is_present h s) + length (seats_from h ns n (suc s))
    unfolding when◌then◌else◌
    one_count = by_test (is_present h s) (λ e. rw e (omega arith)) (λ e. rw e (omega arith))

  left_one : (s : ℕ) → s < 16 → 16 - s ≡ suc (16 - (s + 1))
  left_one s l = omega arith

  -- the seats from one on
  unfoldable pub rest : ℕ → List Seat
  rest s = seats_from h ns (16 - s) s

  pub rest_all : seats_of h ns ≡ rest 0
  unfolding seats_of rest
  rest_all = refl

  pub octets_on : (s : ℕ) → s < 16 → seats_octets (rest s) ≡ octets_at_seat h ns s ++ seats_octets (rest (s + 1))
  unfolding rest
  octets_on s l =
      ap (λ (n : ℕ). seats_octets (seats_from h ns n s)) (left_one s l) ∙ one-octets (16 - (s + 1)) s
      ∙ ap (λ (t : ℕ). octets_at_seat h ns s ++ seats_octets (seats_from h ns (16 - (s + 1)) t)) (sym (add-one s))

  pub count_on : (s : ℕ) → s < 16 → length (rest s) ≡ one (is_present h s) + length (rest (s + 1))
  unfolding rest
  count_on s l =
      ap (λ (n : ℕ). length (seats_from h ns n s)) (left_one s l) ∙ one_count (16 - (s + 1)) s
      ∙ ap (λ (t : ℕ). one (is_present h s) + length (seats_from h ns (16 - (s + 1)) t)) (sym (add-one s))

  pub rest_none : (s : ℕ) → 16 ≤ s → rest s ≡ []
  unfolding rest
  rest_none s l = let z : 16 - s ≡ 0 = omega arith in rw z

  pub no_octets : (s : ℕ) → 16 ≤ s → seats_octets (rest s) ≡ []
  unfolding seats_octets
  no_octets s l = rw (rest_none s l)

  -- the seats below s are written
  pub record Put (room₀ room : List ℕ) (at s : ℕ) : Type 0 where
    pub done : List ℕ
    pub ends : at ≡ length done
    pub is : room ≡ over room₀ 0 done
    pub all : done ++ seats_octets (rest s) ≡ seats_octets (seats_of h ns)

  pub put_starts : (room : List ℕ) → Put room room 0 0
  put_starts room = record { done = []; ends = refl; is = sym (over_none room 0); all = ap seats_octets (sym rest_all) }

  pub put_fits : (room₀ room : List ℕ) (at s : ℕ) → s < 16 → Put room₀ room at s
      → at + length (octets_at_seat h ns s) ≤ length (seats_octets (seats_of h ns))
  put_fits room₀ room at s l p =
      omega (arith, p.ends, simp length-append at (ap length p.all), simp length-append at (ap length (octets_on s l)))

  pub put_on : (room₀ room : List ℕ) (at s : ℕ) → s < 16 → Put room₀ room at s
      → Put room₀ (over room at (octets_at_seat h ns s)) (at + length (octets_at_seat h ns s)) (s + 1)
  put_on room₀ room at s l p =
      record {
        done = p.done ++ octets_at_seat h ns s;
        ends = simp length-append (ap (λ (n : ℕ). n + length (octets_at_seat h ns s)) p.ends);
        is = rw (p.is, p.ends) (over_front room₀ p.done (octets_at_seat h ns s));
        all = append_assoc p.done (octets_at_seat h ns s) (seats_octets (rest (s + 1)))
            ∙ ap (λ (o : List ℕ). p.done ++ o) (sym (octets_on s l)) ∙ p.all;
      }

  pub put_ends : (room₀ room : List ℕ) (at s : ℕ) → 16 ≤ s → Put room₀ room at s → room ≡ over room₀ 0 (seats_octets (seats_of h ns))
  put_ends room₀ room at s l p =
      p.is ∙ ap (over room₀ 0) (sym (append-nil p.done) ∙ ap (λ (o : List ℕ). p.done ++ o) (sym (no_octets s l)) ∙ p.all)

-- seats, settings and trailer as they are put one after the other
module _ (h : Hall) (ns : Names) where
  pub sheet-made : (room r₁ r₂ r₃ : List ℕ) (at count : ℕ) → at ≡ length (seats_octets (seats_of h ns)) → count ≡ length (seats_of h ns)
      → r₁ ≡ over room 0 (seats_octets (seats_of h ns)) → r₂ ≡ over r₁ at (settings_octets h.settings)
      → r₃ ≡ over r₂ (at + settings_size) (trailer at count) → r₃ ≡ over room 0 (sheet_of h ns)
  unfolding sheet_of sheet
  sheet-made room r₁ r₂ r₃ at count e n f₁ f₂ f₃ =
      let o = seats_octets (seats_of h ns) in
      let s = settings_octets h.settings in
      let g₂ : r₂ ≡ over room 0 (o ++ s) =
      f₂ ∙ ap (λ (r : List ℕ). over r at s) f₁ ∙ ap (λ (k : ℕ). over (over room 0 o) k s) e ∙ over_front room o s in
      let l : at + settings_size ≡ length (o ++ s) = omega (arith, length-append o s, settings_long h.settings, e) in
      f₃ ∙ ap (λ (r : List ℕ). over r (at + settings_size) (trailer at count)) g₂
      ∙ ap (λ (k : ℕ). over (over room 0 (o ++ s)) k (trailer at count)) l
      ∙ over_front room (o ++ s) (trailer at count) ∙ ap (λ (x : ℕ). over room 0 ((o ++ s) ++ trailer x count)) e
      ∙ ap (λ (x : ℕ). over room 0 ((o ++ s) ++ trailer (length o) x)) n
