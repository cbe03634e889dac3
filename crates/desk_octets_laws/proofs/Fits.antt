-- The octets of a desk hold what the table says. Assumes nothing.
use Prim.Native.Nat.{ℕ, ◌+◌, ◌≤◌}
use mathlib.Core.Path.{◌≡◌, refl}
use mathlib.Core.Bool.{true}
use lib.Dec.{leb}
use lib.ListN.{length, get_or}
use borrow.Author.Tests.{le-leb}
use Rattle.octets.specs.Octets.{be16, octets16, octets32}
use Rattle.line.specs.Line.{waiting}
use Rattle.hall.specs.declared.Hall.{Hall}
use Rattle.identities.specs.declared.Names.{Names}
use Rattle.identities.specs.Identity.{name_at}
use Rattle.identities.specs.Identity as identity
use Rattle.steps.specs.declared.Core.{Core}
use Rattle.desk_octets.specs.Places.{lengths_column}
use Rattle.desk_octets.specs.Columns.{column, rows}
use Rattle.hall.specs.declared.Flags.{Flags}
use Rattle.seat_octets.specs.Layout.{flags_octet, flags_top, settings_octets, unused_zero}
use Rattle.seat_octets.proofs.Bits.{flags_few}
use Rattle.desk_octets.specs.Form.{cause_in, phase_octets, line_octets, core_octets, bool_octets, octet_column, seat_flags_octets}
use Rattle.desk_octets.specs.Form.{word_column}
use Rattle.desk_octets.specs.Form.{hall_octets, octets_of_desk, up_to, letters_fit, core_fits, hall_fits, names_fit, canonical}
use Rattle.desk_octets.proofs.Tests.{all_below_lem}
use Rattle.desk_octets.proofs.Lengths.{length-octets}
use Rattle.desk_octets_laws.specs.Forms.{Shaped, EveryDeskBack}
use Rattle.desk_octets.proofs.Flags.{flag_fits}
use Rattle.octets.proofs.Numbers.{back16}
use Rattle.desk_octets.proofs.Phases.{phase_fits_lem}
use Rattle.desk_octets_laws.proofs.Back.{line_count, length_there, name_short, stands}

flags_fit : (f : Flags) → leb (flags_octet f) flags_top ≡ true
flags_fit f = le-leb (flags_octet f) flags_top (flags_few f)

module _ (c : Core) (h : Hall) (ns : Names) where
  letters_there : letters_fit (octets_of_desk c h ns) ≡ true
  unfolding letters_fit octets_of_desk
  letters_there = refl

  core_there : length (waiting c.line) ≤ 15 → core_fits (octets_of_desk c h ns) ≡ true
  unfolding core_fits octets_of_desk core_octets phase_octets octets16 be16 line_octets column
  core_there k = rw (back16 (cause_in c.phase), phase_fits_lem c.phase, le-leb (length (waiting c.line)) 15 k)

  hall_there : hall_fits (octets_of_desk c h ns) ≡ true
  unfolding hall_fits up_to unused_zero octets_of_desk core_octets phase_octets octets16 octets32 line_octets hall_octets bool_octets
      word_column
      octet_column seat_flags_octets settings_octets column rows
  hall_there = simp (flag_fits, flags_fit)

  names_there : ((s : ℕ) → length (identity.octets_of (name_at ns s)) ≤ 62) → names_fit (octets_of_desk c h ns) ≡ true
  unfolding names_fit up_to
  names_there k =
      all_below_lem (λ i. leb (get_or (octets_of_desk c h ns) (lengths_column + i) 0) 62) 16
      (λ i b. rw (length_there c h ns i b) (le-leb (length (identity.octets_of (name_at ns i))) 62 (k i)))

  fits : Shaped c h ns → canonical (octets_of_desk c h ns) ≡ true
  unfolding canonical
  fits s =
      rw (
        length-octets c h ns,
        letters_there,
        core_there (line_count c.line s.line),
        hall_there,
        names_there (λ k. name_short (name_at ns k) (s.behind k)),
      )

pub back : EveryDeskBack
back c h ns s = record { stands = stands c h ns s; holds = fits c h ns s }
