-- What making, loading and joining leave, a law for each way they can end, and settings that octets hold. Assumes nothing.
use Rattle.words.specs.Choice.{when◌then◌else◌, by_test}
use Rattle.desk_octets.specs.Places.{desk_size}
use Prim.Native.Nat.{ℕ, ◌<◌}
use mathlib.Core.Path.{◌≡◌}
use mathlib.Core.Bool.{Bool, true, false, ◌&&◌}
use mathlib.Core.List.{List}
use lib.Dec.{eqb, leb, ltb}
use lib.ListN.{length}
use borrow.Author.Tests.{ltb-true, lt-ltb}
use Rattle.octets.specs.Octets.{over}
use Rattle.message.specs.Answers.{refused, result}
use Rattle.signed.specs.Signed.{answers}
use Rattle.steps.specs.declared.Core.{Core}
use Rattle.std.specs.Prelude.{ℤ, Result, Ok, Err}
use Rattle.hall.specs.declared.Refusal.{Refusal}
use Rattle.hall.specs.declared.Hall.{Hall}
use Rattle.hall.specs.declared.Settings.{Settings}
use Rattle.hall.specs.Answers.{desk_refusal_number, settings_answer}
use Rattle.hall.specs.Seats.{empty_hall}
use Rattle.identities.specs.declared.Names.{Names}
use Rattle.identities.specs.Identity.{no_names}
use Rattle.events.specs.Events.{fresh}
use Rattle.seat_octets.specs.Layout.{SettingsFit}
use Rattle.desk_octets.specs.Form.{octets_of_desk}
use Rattle.words.proofs.Tests.{and_both, and_five, both, five}
use Rattle.desk_making.specs.Making.{desk_written, in_octets, held_settings, usable_settings, settable, make_on}

module _ (room : List ℕ) (n k : ℕ) (c : Core) (h : Hall) (ns : Names) where
  pub unwritten : eqb n 0 ≡ false → desk_written room n k c h ns ≡ answers (refused n) room
  unfolding desk_written when◌then◌else◌
  unwritten e = rw e

  pub too_short : eqb n 0 ≡ true → leb desk_size (length room) ≡ false → desk_written room n k c h ns ≡ answers (refused 13) room
  unfolding desk_written when◌then◌else◌
  too_short e l = rw (e, l)

  pub written_so : eqb n 0 ≡ true → leb desk_size (length room) ≡ true →
      desk_written room n k c h ns ≡ answers (result k) (over room 0 (octets_of_desk c h ns))
  unfolding desk_written when◌then◌else◌
  written_so e l = rw (e, l)

-- settings that octets hold, as a test and as facts
module _ (s : Settings) where
  abbrev five_hold : Bool
  five_hold = ltb s.level 256 && ltb s.limit 256 && ltb s.c7 256 && ltb s.c20 256 && ltb s.duration 65536

  pub octets_hold : in_octets s ≡ true → s.ssrc < 4294967296 → SettingsFit s
  unfolding in_octets
  octets_hold q x =
      let b = and_both five_hold (ltb s.normal 256) q in
      let a = and_five (ltb s.level 256) (ltb s.limit 256) (ltb s.c7 256) (ltb s.c20 256) (ltb s.duration 65536) b.0 in
      record {
        ssrc = x;
        level = ltb-true s.level 256 a.0;
        limit = ltb-true s.limit 256 a.1;
        c7 = ltb-true s.c7 256 a.2;
        c20 = ltb-true s.c20 256 a.3;
        duration = ltb-true s.duration 65536 a.4;
        normal = ltb-true s.normal 256 b.1;
      }

  pub held_in_octets : SettingsFit s → in_octets s ≡ true
  unfolding in_octets
  held_in_octets f =
      both five_hold (ltb s.normal 256)
      (five (ltb s.level 256) (ltb s.limit 256) (ltb s.c7 256) (ltb s.c20 256) (ltb s.duration 65536)
      (lt-ltb s.level 256 f.level) (lt-ltb s.limit 256 f.limit) (lt-ltb s.c7 256 f.c7) (lt-ltb s.c20 256 f.c20)
      (lt-ltb s.duration 65536 f.duration))
      (lt-ltb s.normal 256 f.normal)

-- a desk is made by what its settings come to
module _ (room : List ℕ) where
  abbrev pub made_into : Result Settings Refusal → ℤ × List ℕ
  made_into (Ok s) = desk_written room 0 0 fresh (empty_hall s) no_names
  made_into (Err r) = answers (refused (desk_refusal_number r)) room

  pub made_as : (s : Settings) (r : Result Settings Refusal) → usable_settings s ≡ r → made_into r ≡ make_on room s
  unfolding usable_settings when◌then◌else◌
  made_as s r e = rw (← e) (by_test (settable s) (λ t. rw t) (λ t. rw t))

-- what the search opens where settings are judged
unfoldable pub choosing : Type 0
unfolding held_settings usable_settings settable settings_answer when◌then◌else◌
choosing = ℕ
