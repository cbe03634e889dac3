-- "A handset that asked at priority 1 overtook one that sent no Floor Priority field" (document 02, #101): the evening on which it did, and
-- how it goes at a normal level of 100. By computing alone. Assumes nothing.
use Rattle.std.specs.Prelude.{ℕ, ◌+◌, true, false, List, [], ◌∷◌, ◌≡◌, refl, Option, Some, None}
use Rattle.words.specs.Choice.{when◌then◌else◌}
use Rattle.line.specs.declared.Entry.{Entry}
use Rattle.line.specs.Line.{waiting, line_of, before, ahead, entry_of, enter, without, priority_of}
use Rattle.hall.specs.Seats.{settings_of, newcomer_of, empty_hall, alone, effective, seat_of, free_seat, with_seat}
use Rattle.identities.specs.Identity.{octets_of, name_of, no_names, with_name, same, seat_named, length_allowed}
use Rattle.joining.specs.Join.{ssrc_taken, seated, join}
use Rattle.giving.specs.Floor.{given, given_at_once, enters_idle}
use Rattle.request.specs.Request.{waits, priority_in, full, presses, informed, pressed, rule6, asks_again, placed}
use Rattle.request.specs.Request.{request}
use Rattle.events.specs.declared.Event.TheVariants.{Start, Request}
use Rattle.events.specs.Events.{fresh, starts, caller_of, step}
use Rattle.history.specs.Doing.{Doing, event, joins, made, does, after_all}

-- Three handsets, a, b and c, SSRCs 10, 11 and 12. The second may ask for 255, the third for 40 at most.
abbrev comes : ℕ → ℕ → ℕ → Doing
comes letter x highest = joins (letter ∷ []) (newcomer_of x highest (record { queueing = true; receive_only = false }))

abbrev asks_for : ℕ → Option ℕ → Doing
asks_for s a = event (Request (10 + s) a)

-- The first talks. The second asks, and sends no field; then the third asks, and its field says 1.
abbrev opened : List Doing
opened = comes 97 10 255 ∷ comes 98 11 255 ∷ comes 99 12 40 ∷ event Start ∷ asks_for 0 (Some 5) ∷ []

abbrev both_ask : List Doing
both_ask = asks_for 1 None ∷ asks_for 2 (Some 1) ∷ []

-- the line, at a normal level, once such things have happened behind the opening
abbrev line_at : ℕ → List Doing → List Entry
line_at normal xs = waiting (after_all (after_all (made (settings_of 1 200 15 2 2 30 normal)) opened) xs).core.line

-- all that the desk's steps stand on, opened, so that an evening computes
opens : Type 0
unfolding
    when◌then◌else◌ waiting line_of before ahead enter without empty_hall alone effective seat_of free_seat with_seat octets_of name_of
    no_names
    with_name same seat_named length_allowed ssrc_taken seated join given given_at_once enters_idle waits priority_in priority_of full
    presses
    informed pressed rule6 asks_again placed request fresh starts caller_of step does
opens = ℕ

-- At level 0, as in document 01, the third is before the second. At level 100 it is behind.
pub overtaken : line_at 0 both_ask ≡ entry_of 2 1 ∷ entry_of 1 0 ∷ []
unfolding opens
overtaken = refl

pub no_longer : line_at 100 both_ask ≡ entry_of 1 100 ∷ entry_of 2 1 ∷ []
unfolding opens
no_longer = refl

-- "Still capped by the seat's highest": without the field the third counts as 40, and stands behind the second.
pub capped : line_at 100 (asks_for 1 None ∷ asks_for 2 None ∷ []) ≡ entry_of 1 100 ∷ entry_of 2 40 ∷ []
unfolding opens
capped = refl

-- A field that says 0 is 0, at any level.
pub zero_is_zero : line_at 100 (asks_for 1 (Some 0) ∷ asks_for 2 (Some 1) ∷ []) ≡ entry_of 2 1 ∷ entry_of 1 0 ∷ []
unfolding opens
zero_is_zero = refl

-- Who waits and asks again without the field is moved to the level, as by any other priority.
pub moved_to_the_level : line_at 100 (asks_for 1 (Some 1) ∷ asks_for 2 (Some 30) ∷ asks_for 1 None ∷ [])
    ≡ entry_of 1 100 ∷ entry_of 2 30 ∷ []
unfolding opens
moved_to_the_level = refl
