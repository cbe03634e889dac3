-- How many octets a taken seat of a desk has, as it is shown (seat_looking/specs/Showing): 8 to 69, as its identity has 1 to 62. Proved in
-- proofs/Long. Assumes nothing.
use Rattle.std.specs.Prelude.{ℕ, ◌≤◌, ◌<◌, true, List, ◌≡◌, length}
use Rattle.hall.specs.Seats.{is_present}
use Rattle.sheet.specs.Layout.{seat_at, octets_of_seat}
use Rattle.desk_octets.specs.Form.{hall_at, names_at}
use Rattle.desk_test.specs.Lent.{formed}

abbrev pub length_shown : List ℕ → ℕ → ℕ
length_shown d s = length (octets_of_seat (seat_at (hall_at d) (names_at d) s))

abbrev pub SeatLong : Type 0
SeatLong = (d : List ℕ) (s : ℕ) → formed d ≡ true → s < 16 → is_present (hall_at d) s ≡ true →
    (8 ≤ length_shown d s) × (length_shown d s ≤ 69)
