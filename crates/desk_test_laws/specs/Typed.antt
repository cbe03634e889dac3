-- What a desk (document 01, "The desk") has by the types of its parts alone: sixteen seats in each column, fifteen places in line,
-- identities in 62 octets, a sequence number of 16 bits. Assumes nothing.
use Rattle.std.specs.Prelude.{ℕ, ◌<◌, ◌≡◌, length}
use Rattle.hall.specs.declared.Hall.{Hall}
use Rattle.identities.specs.declared.Names.{Names}
use Rattle.identities.specs.Identity.{name_at, Sixteen}
use Rattle.events.specs.declared.Desk.{Desk}

pub record TypedSeats (h : Hall) (ns : Names) : Type 0 where
  pub columns : Sixteen h ns
  pub octets : (s : ℕ) → s < 16 → length (name_at ns s).octets ≡ 62

pub record Typed (d : Desk) : Type 0 where
  pub seats : TypedSeats d.hall d.names
  pub places : length d.core.line.entries ≡ 15
  pub sequence : d.core.sequence < 65536
