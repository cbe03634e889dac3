-- How long a sheet can be. Assumes nothing.
use Prim.Native.Nat.{ℕ, zero, suc, ◌+◌, ◌*◌, ◌≤◌, ◌<◌}
use native.Mathlib.Omega.{arith}
use mathlib.Core.Bool.{true}
use mathlib.Core.Path.{◌≡◌}
use lib.ListN.{length, length-append}
use Rattle.words.specs.Choice.{when◌then◌else◌, by_test}
use Rattle.hall.specs.declared.Hall.{Hall}
use Rattle.hall.specs.Seats.{is_present}
use Rattle.identities.specs.declared.Names.{Names}
use Rattle.identities.proofs.Naming.{allowed_short}
use Rattle.sheet.specs.Layout.{longest_sheet, octets_of_seat, seats_octets, seat_at, seats_from, seats_of}
use Rattle.sheet.proofs.Sizes.{length_seat, length-sheet_of}
use Rattle.sheet_laws.specs.Sheets.{AllLengths}
use Rattle.sheet_laws.proofs.Kept.{Kept, kept}
use Rattle.sheet_laws.proofs.Saved.{saves, if_saved}

module _ (h : Hall) (ns : Names) (k : Kept h ns) where
  one_long : (s : ℕ) → s < 16 → is_present h s ≡ true → length (octets_of_seat (seat_at h ns s)) ≤ 69
  one_long s w e = omega (arith, length_seat (seat_at h ns s), allowed_short (seat_at h ns s).identity (k.seat s w e).long)

  all_long : (n s : ℕ) → s + n ≤ 16 → length (seats_octets (seats_from h ns n s)) ≤ 69 * n
  unfolding when◌then◌else◌ seats_octets
  all_long zero s b = omega arith
  all_long (suc n) s b =
      let m : length (seats_octets (seats_from h ns n (suc s))) ≤ 69 * n = all_long n (suc s) (omega arith) in
      by_test (is_present h s)
      (λ e. rw e (omega (
        arith,
        one_long s (omega arith) e,
        length-append (octets_of_seat (seat_at h ns s)) (seats_octets (seats_from h ns n (suc s))),
      )))
      (λ e. rw e (omega arith))

  seats_long : length (seats_octets (seats_of h ns)) ≤ 1104
  unfolding seats_of
  seats_long = all_long 16 0 (omega arith)

pub lengths : AllLengths
lengths h ns room =
    record {
      shortest = if_saved h ns room (λ n. 20 ≤ n) (omega (arith, length-sheet_of h ns));
      longest =
          λ k. if_saved h ns room (λ n. n ≤ longest_sheet) (omega (arith, length-sheet_of h ns, seats_long h ns (kept h ns k)));
      enough = λ k e l. saves h ns room e (omega (arith, length-sheet_of h ns, seats_long h ns (kept h ns k)));
    }
