-- What loading answers by each of its checks, where those before it passed, and what a seat more does. Assumes nothing.
use Rattle.std.proofs.Common.{ℕ, suc, ◌+◌, ◌≤◌, ◌≢◌, true, false, List, ◌∷◌, Option, Some, None, Result, Ok, Err, ◌≡◌, ◌∙◌, refl, add-one}
use borrow.Author.Tests.{leb-true, eq-eqb, ne_eqb}
use Rattle.std.specs.Option.{option_map}
use Rattle.words.specs.Choice.{when◌then◌else◌, by_test}
use Rattle.words.specs.Below.{and_left}
use Rattle.octets.specs.Octets.{part}
use Rattle.hall.specs.declared.Hall.{Hall}
use Rattle.hall.specs.Seats.{in_range, empty_hall}
use Rattle.identities.specs.declared.Names.{Names}
use Rattle.identities.specs.Identity.{no_names}
use Rattle.joining.specs.Join.{join}
use Rattle.events.specs.declared.Desk.{Desk}
use Rattle.seat_octets.specs.Layout.{zeros_fit}
use Rattle.sheet.specs.declared.Refusal.{Refusal}
use Rattle.sheet.specs.declared.Refusal.TheVariants.{OutsideRange, SeatAtFault}
use Rattle.sheet.specs.Layout.{Seat}
use Rattle.sheet.specs.Framing.{settings_place, seat_count, framing}
use Rattle.loading.specs.declared.Turn.{Turn}
use Rattle.loading.specs.Loading.{loaded, settings_on, read_seat, after_seat, laid_out, read_seats}
use Rattle.loading.specs.Loading.{if_seated, join_all, seat_all, settled, loading}
use Rattle.loading.specs.Walk.{turn_at}

-- what the proofs of a turn, and of what comes of the settings, open
unfoldable pub turning : Type 0
unfolding turn_at read_seat part when◌then◌else◌
turning = ℕ

unfoldable pub settling : Type 0
unfolding when◌then◌else◌
settling = ℕ

-- 41, 42 and 43 first
module _ (s : List ℕ) where
  pub loads_framed : framing s ≡ Ok tt → loading s ≡ settled s
  unfolding loading
  loads_framed e = rw e

  pub loads_refused : (r : Refusal) → framing s ≡ Err r → loading s ≡ Err r
  unfolding loading
  loads_refused r e = rw e

  pub settles_range : in_range (settings_on s) ≡ false → settled s ≡ Err OutsideRange
  unfolding when◌then◌else◌
  settles_range e = rw e

  module _ (r : in_range (settings_on s) ≡ true) where
    pub settles_zeros : zeros_fit s (settings_place s) ≡ false → settled s ≡ Err OutsideRange
    unfolding when◌then◌else◌
    settles_zeros e = rw (r, e)

    pub settles : zeros_fit s (settings_place s) ≡ true
        → settled s ≡ seat_all (empty_hall (settings_on s)) no_names (read_seats (seat_count s) s 0)
    unfolding when◌then◌else◌
    settles e = rw (r, e)

-- a seat that is laid out ends before the settings
pub laid_fits : (s : List ℕ) (at : ℕ) → laid_out s at ≡ true → after_seat s at ≤ settings_place s
unfolding laid_out
laid_fits s at e = leb-true (after_seat s at) (settings_place s) (and_left _ _ e)

-- a seat read before others
seat_infront_lem : (h : Hall) (ns : Names) (x : Seat) (rest : Option (List Seat))
    → let j = join h ns x.identity x.who in
    seat_all h ns (option_map (λ (xs : List Seat). x ∷ xs) rest) ≡ if_seated j.seat (seat_all j.hall j.names rest)
unfolding join_all
seat_infront_lem h ns x (Some xs) = refl
seat_infront_lem h ns x None = still_refused (join h ns x.identity x.who).seat
  where
    still_refused : (f : Option ℕ) → Err SeatAtFault ≡ if_seated f (Err SeatAtFault)
    still_refused (Some s) = refl
    still_refused None = refl

-- so many seats more, from where the last turn ended
abbrev pub rest : List ℕ → ℕ → Option Turn → Result Desk Refusal
rest s n (Some t) = seat_all t.hall t.names (read_seats n s t.next)
rest s n None = Err SeatAtFault

module _ (s : List ℕ) where
  -- what is left to load, by the turn that comes next
  pub turns : (n : ℕ) (t : Turn) → rest s (suc n) (Some t) ≡ rest s n (turn_at s t)
  unfolding read_seats turn_at when◌then◌else◌
  turns n t =
      by_test (laid_out s t.next)
      (λ e. rw e (seat_infront_lem t.hall t.names (read_seat s t.next) (read_seats n s (after_seat s t.next)) ∙ through _ _))
      (λ e. rw e)
    where
      through : (f : Option ℕ) (u : Turn) → if_seated f (rest s n (Some u)) ≡ rest s n (option_map (λ (seat : ℕ). u) f)
      through (Some k) u = refl
      through None u = refl

  pub goes_on : (left n : ℕ) (t : Turn) (u : Option Turn) → left ≡ n + 1 → u ≡ turn_at s t → rest s left (Some t) ≡ rest s n u
  goes_on left n t u e f = rw (e, add-one n, f) (turns n t)

  pub loads_end : (t : Turn) → t.next ≡ settings_place s → rest s 0 (Some t) ≡ Ok (loaded t.hall t.names)
  unfolding read_seats join_all when◌then◌else◌
  loads_end t e = rw (eq-eqb t.next (settings_place s) e)

  pub loads_gap : (t : Turn) → t.next ≢ settings_place s → rest s 0 (Some t) ≡ Err SeatAtFault
  unfolding read_seats when◌then◌else◌
  loads_gap t e = rw (ne_eqb t.next (settings_place s) e)
