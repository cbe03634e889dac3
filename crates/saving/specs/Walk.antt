-- How the code goes through a hall to save it, seat by seat. What is saved stands in Saving, and in sheet/specs/Layout; what
-- one seat puts there in seat_saving/specs/Seat. Assumes nothing.
use Rattle.std.specs.Prelude.{◌≤◌, ◌≡◌, length}
use Rattle.hall.specs.declared.Hall.{Hall}
use Rattle.identities.specs.declared.Names.{Names}
use Rattle.sheet.specs.Layout.{seats_octets, seats_of}
use Rattle.saving.specs.declared.Extent.{Extent}

-- how many octets the seats have, 69 at most each, and how many seats there are
pub record Measured (h : Hall) (ns : Names) (e : Extent) : Type 0 where
  pub octets : e.octets ≡ length (seats_octets (seats_of h ns))
  pub few : e.octets ≤ 1104
  pub count : e.count ≡ length (seats_of h ns)
