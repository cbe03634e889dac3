-- What saving answers, and the room once it has, where a sheet cannot hold the level, where the room is too short, and where it is saved.
-- Assumes nothing.
use Rattle.std.proofs.Common.{ℕ, ◌≤◌, ◌<◌, ◌≢◌, List, ◌≡◌, Ok, Err, length, arith}
use Rattle.std.proofs.lemmas.Bool.Decides.{nat_tests}
use Rattle.words.specs.Choice.{when◌then◌else◌}
use Rattle.octets.specs.Octets.{over}
use Rattle.hall.specs.declared.Hall.{Hall}
use Rattle.identities.specs.declared.Names.{Names}
use Rattle.sheet.specs.Layout.{sheet_of}
use Rattle.saving.specs.declared.Refusal.TheVariants.{CannotHold, NoRoom}
use Rattle.saving.specs.Saving.{saving, room_after}

module _ (h : Hall) (ns : Names) (room : List ℕ) where
  module _ (other : h.settings.normal ≢ 0) where
    pub saves_none : saving h ns room ≡ Err CannotHold
    unfolding saving when◌then◌else◌
    saves_none = grind (arith, nat_tests)

    pub room_kept : room_after h ns room ≡ room
    unfolding room_after when◌then◌else◌
    room_kept = rw saves_none

  module _ (zero : h.settings.normal ≡ 0) (short : length room < length (sheet_of h ns)) where
    pub saves_no_room : saving h ns room ≡ Err NoRoom
    unfolding saving when◌then◌else◌
    saves_no_room = grind (arith, nat_tests)

    pub room_untouched : room_after h ns room ≡ room
    unfolding room_after when◌then◌else◌
    room_untouched = rw saves_no_room

  module _ (zero : h.settings.normal ≡ 0) (fits : length (sheet_of h ns) ≤ length room) where
    pub saves_whole : saving h ns room ≡ Ok (length (sheet_of h ns))
    unfolding saving when◌then◌else◌
    saves_whole = grind (arith, nat_tests)

    pub room_written : room_after h ns room ≡ over room 0 (sheet_of h ns)
    unfolding room_after when◌then◌else◌
    room_written = rw saves_whole
