-- The ways in which a join can go (document 01, "The desk": "Join tests 25, 26, 27, 24 and takes the lowest free seat"): it is refused and
-- nothing changes, or the newcomer has passed every test and sits in a seat that was free. The one statement here is proved in
-- proofs/Joins. Assumes nothing.
use Rattle.std.specs.Prelude.{ℕ, ◌<◌, ◌≡◌, true, false, List, Some, is_some, Ok}
use Rattle.hall.specs.declared.Refusal.{Refusal}
use Rattle.hall.specs.declared.Hall.{Hall}
use Rattle.identities.specs.declared.Names.{Names}
use Rattle.hall.specs.declared.Newcomer.{Newcomer}
use Rattle.joining.specs.declared.Joined.{Joined}
use Rattle.hall.specs.Seats.{is_present, free_seat, with_seat}
use Rattle.identities.specs.Identity.{seat_named, name_of, with_name, length_allowed}
use Rattle.joining.specs.Join.{ssrc_taken, not_joined, join}

-- a newcomer that is refused by none of 25, 26 and 27
pub record Passes (h : Hall) (ns : Names) (o : List ℕ) (n : Newcomer) : Type 0 where
  pub long : length_allowed o ≡ true
  pub unnamed : is_some (seat_named h ns o) ≡ false
  pub unheard : ssrc_taken h n.ssrc ≡ false

pub data Joins (h : Hall) (ns : Names) (o : List ℕ) (n : Newcomer) (j : Joined) : Type 0 where
  turned_away : (r : Refusal) → j ≡ not_joined h ns r → Joins h ns o n j
  sits_down : (s : ℕ) → Passes h ns o n → free_seat h ≡ Some s → is_present h s ≡ false → s < 16 →
      j ≡ record { answer = Ok tt; seat = Some s; hall = with_seat h s true n; names = with_name ns s (name_of o) } → Joins h ns o n j

abbrev pub EveryJoin : Type 0
EveryJoin = (h : Hall) (ns : Names) (o : List ℕ) (n : Newcomer) → Joins h ns o n (join h ns o n)
