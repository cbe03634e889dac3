-- A seat of a desk in lent octets, written as the sheet lays it out (sheet/specs/Layout), and its settings, written as the desk's octets
-- have them, with the normal level (seat_octets/specs/Layout).
-- The order of the tests: 20 where the octets are no desk's; 22 where nobody sits there, be the seat free or none of the sixteen; then 13.
-- A refusal leaves the room as it was, and a result leaves it untouched past its end. Assumes nothing.
use Rattle.std.specs.Prelude.{ℕ, List, leb, length, ℤ}
use Rattle.words.specs.Choice.{when◌then◌else◌}
use Rattle.octets.specs.Octets.{over}
use Rattle.message.specs.Answers.{refused, result}
use Rattle.hall.specs.declared.Hall.{Hall}
use Rattle.hall.specs.Seats.{is_present}
use Rattle.identities.specs.declared.Names.{Names}
use Rattle.seat_octets.specs.Layout.{settings_octets}
use Rattle.sheet.specs.Layout.{seat_at, octets_of_seat}
use Rattle.desk_octets.specs.Form.{hall_at, names_at, settings_at}
use Rattle.desk_test.specs.Lent.{formed}
use Rattle.signed.specs.Signed.{answers}

-- octets written from the room's beginning on, answered with how many they are
unfoldable pub shown : List ℕ → List ℕ → ℤ × List ℕ
shown octets room =
    when leb (length octets) (length room) then answers (result (length octets)) (over room 0 octets) else answers (refused 13) room

abbrev pub taken_shown : Hall → Names → ℕ → List ℕ → ℤ × List ℕ
taken_shown h ns seat room = when is_present h seat then shown (octets_of_seat (seat_at h ns seat)) room else answers (refused 22) room

abbrev pub seat_shown : List ℕ → ℕ → List ℕ → ℤ × List ℕ
seat_shown d seat room = when formed d then taken_shown (hall_at d) (names_at d) seat room else answers (refused 20) room

abbrev pub settings_shown : List ℕ → List ℕ → ℤ × List ℕ
settings_shown d room = when formed d then shown (settings_octets (settings_at d)) room else answers (refused 20) room
