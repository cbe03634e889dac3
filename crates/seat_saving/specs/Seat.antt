-- What a seat of a hall, taken or free, puts on the sheet; the octets of a seat stand in sheet/specs/Layout. Assumes nothing.
use Rattle.std.specs.Prelude.{ℕ, List, []}
use Rattle.words.specs.Choice.{when◌then◌else◌}
use Rattle.hall.specs.declared.Hall.{Hall}
use Rattle.hall.specs.Seats.{is_present}
use Rattle.identities.specs.declared.Names.{Names}
use Rattle.sheet.specs.Layout.{octets_of_seat, seat_at}

unfoldable pub octets_at_seat : Hall → Names → ℕ → List ℕ
octets_at_seat h ns s = when is_present h s then octets_of_seat (seat_at h ns s) else []
