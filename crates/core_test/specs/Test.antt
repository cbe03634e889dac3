-- The test of the floor and the line (document 01, "The desk": "Octets not in that form get 20"): the words of docs/FORMS.md on the core
-- that octets stand for, as Bools; the seats' is in crate seats_test. What a value's own type gives (how many places there are, that a
-- sequence number has 16 bits) is not tested. Assumes nothing.
use Rattle.std.specs.Prelude.{ℕ, suc, Bool, not, ◌&&◌, ◌||◌, List, eqb, leb, ltb, length, get_or}
use Rattle.words.specs.Below.{all_below}
use Rattle.line.specs.declared.Entry.{Entry}
use Rattle.line.specs.declared.Line.{Line}
use Rattle.line.specs.Line.{waiting, empty, before, is_in}
use Rattle.hall.specs.declared.Hall.{Hall}
use Rattle.hall.specs.Seats.{is_present}
use Rattle.steps.specs.declared.Phase.{Phase}
use Rattle.steps.specs.declared.Phase.TheVariants.{Stopped, Idle, Taken, Revoking}
use Rattle.steps.specs.declared.Core.{Core}

-- a place of the line: the next has no higher priority; its seat is not found at an earlier place; its seat is taken
abbrev pub in_order : List Entry → ℕ → Bool
in_order es i = leb (get_or es (suc i) empty).priority (get_or es i empty).priority

abbrev pub is_first : List Entry → ℕ → Bool
is_first es i = eqb (before (get_or es i empty).seat es) i

unfoldable pub place_sound : Hall → List Entry → ℕ → Bool
place_sound h es i = in_order es i && is_first es i && is_present h (get_or es i empty).seat

-- the places behind the line are zero
abbrev pub is_empty : Entry → Bool
is_empty e = eqb e.seat 0 && eqb e.priority 0

unfoldable pub place_behind : Line → ℕ → Bool
place_behind l i = ltb i (length (waiting l)) || is_empty (get_or l.entries i empty)

unfoldable pub line_sound : Hall → Line → Bool
line_sound h l =
    all_below (place_sound h (waiting l)) (length (waiting l)) && leb (length (waiting l)) h.settings.limit
    && eqb l.len (length (waiting l))
    && all_below (place_behind l) 15

-- the holder is present and not in line; nobody waits in Stopped and Idle; a Revoke has cause 2 or 4
abbrev pub holder_sound : Hall → List Entry → ℕ → Bool
holder_sound h es s = is_present h s && not (is_in s es)

unfoldable pub floor_sound : Hall → List Entry → Phase → Bool
floor_sound h es Stopped = eqb (length es) 0
floor_sound h es (Idle t7) = eqb (length es) 0
floor_sound h es (Taken e b) = holder_sound h es e.seat
floor_sound h es (Revoking e n) = holder_sound h es e.seat && (eqb n 2 || eqb n 4)

unfoldable pub core_sound : Hall → Core → Bool
core_sound h c =
    line_sound h c.line && floor_sound h (waiting c.line) c.phase && leb c.c7 h.settings.c7 && leb c.c20 h.settings.c20
