-- A desk passes the test exactly if it is sound: the seats' half and the core's half together. Assumes nothing.
use Rattle.words.proofs.Tests.{and_both, both}
use Rattle.identities.specs.Identity.{name_at}
use Rattle.history.specs.Doing.{after, after_all}
use Rattle.reach.proofs.Hall.{hall_ok}
use Rattle.reach.proofs.Reach.{sound_kept, sound_reached}
use Rattle.seats_test.specs.Seats.{seats_sound}
use Rattle.core_test.specs.Test.{core_sound}
use Rattle.desk_test.specs.Lent.{is_sound}
use Rattle.desk_test_laws.specs.Passes.{SoundTest, TestSound, SoundTyped, ReachedPasses, PassesKept}
use Rattle.desk_test_laws.proofs.Core.{core_from, core_test_lem, fifteen}
use Rattle.desk_test_laws.proofs.Seats.{seats_from_lem, seats_test_lem, sixty_two}

pub sound_test : SoundTest
unfolding is_sound
sound_test d k q =
    let a = and_both (seats_sound d.hall d.names) (core_sound d.hall d.core) q in
    record {
      seats = seats_from_lem d.hall d.names k.seats a.0;
      core = core_from d.hall d.core k.places k.sequence a.1;
    }

pub test_sound : TestSound
unfolding is_sound
test_sound d k =
    both (seats_sound d.hall d.names) (core_sound d.hall d.core) (seats_test_lem d.hall d.names k.seats)
    (core_test_lem d.hall d.core (hall_ok d.hall d.names k.seats).limit k.core)

pub sound_typed : SoundTyped
sound_typed d k =
    record {
      seats = record { columns = k.seats.columns; octets = λ s b. sixty_two (name_at d.names s) (k.seats.behind s) };
      places = fifteen d.core.line k.core.line.behind;
      sequence = k.core.numbers.sequence;
    }

pub reached_passes : ReachedPasses
reached_passes start f xs = test_sound (after_all start xs) (sound_reached start f xs)

pub passes_kept : PassesKept
passes_kept d x k q = test_sound (after d x) (sound_kept d x (sound_test d k q))
