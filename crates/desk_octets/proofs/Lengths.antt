-- How many octets each part of a desk has, and the whole. Assumes nothing.
use mathlib.Core.Path.{◌≡◌, refl, ◌∙◌}
use mathlib.Core.List.{◌++◌}
use lib.ListN.{length, length-append}
use Rattle.octets.specs.Octets.{octets16, octets32}
use Rattle.hall.specs.declared.Hall.{Hall}
use Rattle.identities.specs.declared.Names.{Names}
use Rattle.identities.specs.Identity.{name_at}
use Rattle.identities.specs.Identity as identity
use Rattle.steps.specs.declared.Core.{Core}
use Rattle.desk_octets.specs.Places.{lengths_column, desk_size}
use Rattle.desk_octets.specs.Columns.{column, rows}
use Rattle.seat_octets.specs.Layout.{settings_octets}
use Rattle.desk_octets.specs.Form.{desk_letters, phase_octets, line_octets, core_octets, bool_octets, octet_column, seat_flags_octets}
use Rattle.desk_octets.specs.Form.{word_column}
use Rattle.desk_octets.specs.Form.{hall_octets, length_octets, name_octets, names_octets, octets_of_desk}
use Rattle.desk_octets.proofs.Columns.{length-column, length-rows}
use Rattle.desk_octets.proofs.Pieces.{length-name}

pub length_core : (c : Core) → length (core_octets c) ≡ 44
unfolding core_octets phase_octets octets16 line_octets column
length_core c = refl

length_hall : (h : Hall) → length (hall_octets h) ≡ 144
unfolding hall_octets bool_octets word_column octet_column seat_flags_octets settings_octets octets16 octets32 column rows
length_hall h = refl

length_names : (ns : Names) → length (names_octets ns) ≡ 1008
unfolding names_octets length_octets
length_names ns =
    length-append (length_octets ns) (rows (λ s. name_octets (name_at ns s)) 0 16)
    ∙ rw (
      length-column (λ s. length (identity.octets_of (name_at ns s))) 0 16,
      length-rows (λ s. name_octets (name_at ns s)) 62 0 16 (λ s. length-name (name_at ns s)),
    )

pub length_head : (c : Core) (h : Hall) → length (desk_letters ++ core_octets c ++ hall_octets h) ≡ lengths_column
length_head c h = simp (length-append, length_core c, length_hall h)

pub length-octets : (c : Core) (h : Hall) (ns : Names) → length (octets_of_desk c h ns) ≡ desk_size
unfolding octets_of_desk
length-octets c h ns = simp (length-append, length_core c, length_hall h, length_names ns)
