-- What octets that are a desk's have. Assumes nothing.
use Rattle.desk_octets.specs.Places.{desk_size}
use Prim.Native.Nat.{ℕ, ◌≤◌}
use mathlib.Core.Path.{◌≡◌}
use mathlib.Core.Bool.{true}
use mathlib.Core.List.{List}
use lib.ListN.{length}
use Rattle.words.specs.Below.{and_left}
use Rattle.desk_octets.specs.Form.{canonical, core_at, hall_at, names_at}
use Rattle.desk_test.specs.Lent.{is_sound, formed}
use Rattle.desk_octets.proofs.Facts.{fits_room}

module _ (d : List ℕ) (q : formed d ≡ true) where
  pub fits : canonical d ≡ true
  unfolding formed
  fits = and_left (canonical d) (is_sound (core_at d) (hall_at d) (names_at d)) q

  pub has_room : desk_size ≤ length d
  has_room = fits_room d fits
