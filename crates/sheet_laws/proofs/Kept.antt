-- What seats in order are to a sheet: the settings are in range, and of those who sit there each may be on it, and any two of them both.
-- Assumes nothing.
use Prim.Native.Nat.{ℕ, zero, suc, ◌+◌, ◌≤◌, ◌<◌}
use native.Mathlib.Omega.{arith}
use mathlib.Core.Bool.{true}
use mathlib.Core.Path.{◌≡◌}
use borrow.Author.Tests.{ne_eqb}
use Rattle.std.proofs.lemmas.Bool.Decides.{nat_tests}
use Rattle.words.specs.Choice.{when◌then◌else◌, by_test}
use Rattle.identities.specs.declared.Names.{Names}
use Rattle.hall.specs.declared.Hall.{Hall}
use Rattle.hall.specs.Seats.{in_range, is_present}
use Rattle.identities.specs.Identity.{octets_of, name_at, same}
use Rattle.reach.specs.Sound.{SeatsOk}
use Rattle.sheet.specs.Layout.{seat_at, seats_from, seats_of}
use Rattle.sheet_laws.proofs.Joins.{SeatOk, Apart, Ahead, Fine}

pub record Kept (h : Hall) (ns : Names) : Type 0 where
  pub range : in_range h.settings ≡ true
  pub seat : (s : ℕ) → s < 16 → is_present h s ≡ true → SeatOk h.settings (seat_at h ns s)
  pub apart : (s t : ℕ) → s < t → t < 16 → is_present h s ≡ true → is_present h t ≡ true → Apart (seat_at h ns s) (seat_at h ns t)

pub kept : (h : Hall) (ns : Names) → SeatsOk h ns → Kept h ns
kept h ns k =
    record {
      range = k.settings;
      seat = λ s w e. record { long = k.lengths s e; not_desk = ne_eqb _ _ (k.desk s e) };
      apart =
          λ s t l w e f.
          record {
            ssrcs = grind (arith, nat_tests, k.ssrcs s t e f);
            identities =
                by_test (same (octets_of (name_at ns s)) (octets_of (name_at ns t)))
                (λ q. let z = k.identities s t e f q in absurd (omega (arith, z))) (λ q. q);
          };
    }

-- so the seats of such a hall, in order, are a fine list
module _ (h : Hall) (ns : Names) (k : Kept h ns) where
  ahead-from : (s n t : ℕ) → s < 16 → is_present h s ≡ true → s < t → t + n ≤ 16 → Ahead (seat_at h ns s) (seats_from h ns n t)
  unfolding when◌then◌else◌
  ahead-from s zero t w e l b = tt
  ahead-from s (suc n) t w e l b =
      by_test (is_present h t)
      (λ f. rw f (k.apart s t l (omega arith) e f, ahead-from s n (suc t) w e (omega arith) (omega arith)))
      (λ f. rw f (ahead-from s n (suc t) w e (omega arith) (omega arith)))

  fine_from : (n s : ℕ) → s + n ≤ 16 → Fine h.settings (seats_from h ns n s)
  unfolding when◌then◌else◌
  fine_from zero s b = tt
  fine_from (suc n) s b =
      by_test (is_present h s)
      (λ e.
      rw e
      (k.seat s (omega arith) e, ahead-from s n (suc s) (omega arith) e (omega arith) (omega arith), fine_from n (suc s) (omega arith)))
      (λ e. rw e (fine_from n (suc s) (omega arith)))

  pub fine : Fine h.settings (seats_of h ns)
  unfolding seats_of
  fine = fine_from 16 0 (omega arith)
