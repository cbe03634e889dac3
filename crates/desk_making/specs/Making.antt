-- A desk in lent octets that is made, loaded or joined (document 01, "The desk" and "The sheet"): the answer and the octets. The order of
-- the tests: 20, where a desk is lent; then the paper's refusals; then 13. A refusal leaves all as it was. Made and loaded in any room that
-- is long enough: what stood there is not asked. Assumes nothing.
use Rattle.desk_octets.specs.Places.{desk_size}
use Rattle.std.specs.Prelude.{ℕ, Bool, not, ◌&&◌, List, eqb, leb, ltb, ℤ, length, Option, None, Some, Result, Ok, Err}
use Rattle.words.specs.Choice.{when◌then◌else◌}
use Rattle.octets.specs.Octets.{over}
use Rattle.message.specs.Answers.{refused, result}
use Rattle.signed.specs.Signed.{answers}
use Rattle.hall.specs.declared.Refusal.{Refusal}
use Rattle.hall.specs.declared.Refusal.TheVariants.{OutsideRange}
use Rattle.hall.specs.Answers.{answer_number}
use Rattle.hall.specs.declared.Settings.{Settings}
use Rattle.hall.specs.declared.Hall.{Hall}
use Rattle.identities.specs.declared.Names.{Names}
use Rattle.hall.specs.declared.Newcomer.{Newcomer}
use Rattle.joining.specs.declared.Joined.{Joined}
use Rattle.hall.specs.Seats.{settings_of, newcomer_of, in_range, empty_hall}
use Rattle.identities.specs.Identity.{no_names}
use Rattle.joining.specs.Join.{join}
use Rattle.steps.specs.declared.Core.{Core}
use Rattle.events.specs.declared.Desk.{Desk}
use Rattle.events.specs.Events.{fresh}
use Rattle.sheet.specs.declared.Refusal as sheets
use Rattle.sheet.specs.Framing.{sheet_refusal_number}
use Rattle.loading.specs.Loading.{loading}
use Rattle.desk_octets.specs.Form.{octets_of_desk, core_at, hall_at, names_at}
use Rattle.desk_test.specs.Lent.{formed}
use Rattle.desk_making.specs.declared.WideSettings.{WideSettings}

-- a desk that is written, unless its number n refuses it: k is what is answered once it is done
unfoldable pub desk_written : List ℕ → (n k : ℕ) → Core → Hall → Names → ℤ × List ℕ
desk_written room n k c h ns =
    when eqb n 0
    then (when leb desk_size (length room) then answers (result k) (over room 0 (octets_of_desk c h ns)) else answers (refused 13) room)
    else answers (refused n) room

-- settings come as numbers of 32 bits: those that no octet holds are outside their range
abbrev pub narrowed : WideSettings → Settings
narrowed w = settings_of w.ssrc w.level w.limit w.c7 w.c20 w.duration w.normal

unfoldable pub in_octets : Settings → Bool
in_octets s =
    ltb s.level 256 && ltb s.limit 256 && ltb s.c7 256 && ltb s.c20 256 && ltb s.duration 65536 && ltb s.normal 256

unfoldable pub settable : Settings → Bool
settable s = in_octets s && in_range s

-- settings as octets hold them, and those that a desk can be made with
unfoldable pub held_settings : Settings → Result Settings Refusal
held_settings s = when in_octets s then Ok s else Err OutsideRange

unfoldable pub usable_settings : Settings → Result Settings Refusal
usable_settings s = when settable s then Ok s else Err OutsideRange

abbrev pub make_on : List ℕ → Settings → ℤ × List ℕ
make_on room s =
    when settable s then desk_written room 0 0 fresh (empty_hall s) no_names else answers (refused (answer_number (Err OutsideRange))) room

-- what a sheet comes to: its desk, or the number of its refusal
abbrev pub loaded_into : List ℕ → Result Desk sheets.Refusal → ℤ × List ℕ
loaded_into room (Ok d) = desk_written room 0 0 d.core d.hall d.names
loaded_into room (Err r) = answers (refused (sheet_refusal_number r)) room

abbrev pub load_on : List ℕ → List ℕ → ℤ × List ℕ
load_on room sheet = loaded_into room (loading sheet)

-- a flag from C: 0 for no, anything else for yes
abbrev pub newcomer : ℕ → ℕ → ℕ → ℕ → Newcomer
newcomer ssrc highest queueing receive_only =
    newcomer_of ssrc highest (record { queueing = not (eqb queueing 0); receive_only = not (eqb receive_only 0) })

-- a join that is done answers the seat that was taken; one that took none is refused, and its number of a seat is not told
abbrev pub seat_taken : Option ℕ → ℕ
seat_taken (Some s) = s
seat_taken None = 0

abbrev pub joined_on : List ℕ → Joined → ℤ × List ℕ
joined_on d j =
    when formed d then desk_written d (answer_number j.answer) (seat_taken j.seat) (core_at d) j.hall j.names
    else answers (refused 20) d

abbrev pub join_on : List ℕ → List ℕ → Newcomer → ℤ × List ℕ
join_on d identity who = joined_on d (join (hall_at d) (names_at d) identity who)
