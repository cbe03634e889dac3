-- Whether lent octets are a desk's (document 01, "The desk": "Octets not in that form get 20, before all else"). Assumes nothing.
use Rattle.std.specs.Prelude.{ℕ, Bool, ◌&&◌, List}
use Rattle.hall.specs.declared.Hall.{Hall}
use Rattle.identities.specs.declared.Names.{Names}
use Rattle.steps.specs.declared.Core.{Core}
use Rattle.desk_octets.specs.Form.{core_at, hall_at, names_at, canonical}
use Rattle.core_test.specs.Test.{core_sound}
use Rattle.seats_test.specs.Seats.{seats_sound}

-- a desk passes the test if its seats and its core do
unfoldable pub is_sound : Core → Hall → Names → Bool
is_sound c h ns = seats_sound h ns && core_sound h c

-- octets are a desk's if they hold what the table of docs/FORMS.md says, and the desk that they stand for passes the tests of crates
-- core_test and seated. Every desk that steps can reach from a fresh one does (crate desk_test_laws); so do some that none reaches, for
-- instance one in Idle with C7 at 0.
unfoldable pub formed : List ℕ → Bool
formed d = canonical d && is_sound (core_at d) (hall_at d) (names_at d)
