-- How long the parts of a sheet are. Assumes nothing.
use Prim.Native.Nat.{ℕ, ◌+◌}
use native.Mathlib.Omega.{arith}
use mathlib.Core.List.{List}
use mathlib.Core.Path.{◌≡◌, refl}
use lib.ListN.{length, length-append}
use Rattle.octets.specs.Octets.{octets16, octets32}
use Rattle.hall.specs.declared.Hall.{Hall}
use Rattle.hall.specs.declared.Settings.{Settings}
use Rattle.identities.specs.declared.Names.{Names}
use Rattle.seat_octets.proofs.SettingsLaws.{settings_long}
use Rattle.sheet.specs.Layout.{Seat, seat_head, trailer_size, tail_size, octets_of_seat, seats_octets, seats_of, trailer, sheet, sheet_of}

pub length_seat : (x : Seat) → length (octets_of_seat x) ≡ seat_head + length x.identity
unfolding octets_of_seat octets32 octets16
length_seat x = omega arith

pub length-trailer : (at count : ℕ) → length (trailer at count) ≡ trailer_size
unfolding trailer octets16
length-trailer at count = refl

pub length-sheet : (xs : List Seat) (s : Settings) → length (sheet xs s) ≡ length (seats_octets xs) + tail_size
unfolding sheet
length-sheet xs s =
    simp (length-append, settings_long s, length-trailer (length (seats_octets xs)) (length xs)) (omega arith)

pub length-sheet_of : (h : Hall) (ns : Names) → length (sheet_of h ns) ≡ length (seats_octets (seats_of h ns)) + tail_size
unfolding sheet_of
length-sheet_of h ns = length-sheet (seats_of h ns) h.settings
