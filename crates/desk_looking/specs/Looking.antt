-- Looking at a desk in lent octets, and what is written out of one: the line for the wall screen, its sheet, a report's message as its
-- packet; and packets by themselves (document 01, "The desk"). The order of the tests: 20, where a desk is lent; then the paper's refusals;
-- then 13. A refusal leaves all as it was. Assumes nothing.
use Rattle.std.specs.Prelude.{ℕ, ◌*◌, ◌≡◌, true, false, List, [], ◌∷◌, leb, length, get_or, ℤ}
use Rattle.std.specs.Prelude.{Option, Some, None, option_map, Result, Ok, Err}
use Rattle.words.specs.Choice.{when◌then◌else◌}
use Rattle.octets.specs.Octets.{over}
use Rattle.message.specs.Answers.{Answer, refused, result}
use Rattle.signed.specs.Signed.{told_as, signed, answers}
use Rattle.line.specs.declared.Entry.{Entry}
use Rattle.line.specs.Line.{waiting, empty}
use Rattle.message.specs.declared.Message.{Message}
use Rattle.identities.specs.Identity.{name_at}
use Rattle.identities.specs.Identity as identity
use Rattle.steps.specs.declared.Phase.{Phase}
use Rattle.steps.specs.declared.Phase.TheVariants.{Stopped, Idle, Taken, Revoking}
use Rattle.saving.specs.declared.Refusal.{Refusal}
use Rattle.saving.specs.Saving.{saving_refusal_number, saving, room_after}
use Rattle.steps.specs.declared.Kind.{Kind}
use Rattle.outgoing.specs.Outgoing.{outgoing, sending, sent}
use Rattle.message_octets.specs.Held.{held_at, read_held, kept_in, writing_of, written_of}
use Rattle.desk_octets.specs.Columns.{rows}
use Rattle.desk_octets.specs.Form.{core_at, hall_at, settings_at, names_at}
use Rattle.report_octets.specs.Report.{particulars, told_in}
use Rattle.desk_test.specs.Lent.{formed}

-- LOOKING AT A DESK

unfoldable pub looks : List ℕ → Answer ℕ → ℤ
looks d a = when formed d then signed a else signed (refused 20)

-- octets of which something is asked: where they are a desk the answer is one that the question may give, else it is 20
abbrev pub AskedAt : List ℕ → (ℤ → Type 0) → ℤ → Type 0
AskedAt d may n = formed d ≡ true → may n

abbrev pub NoneAsked : List ℕ → ℤ → Type 0
NoneAsked d n = formed d ≡ false → n ≡ signed (refused 20)

-- and out of which something is written: the answer with what is left in the room
abbrev pub WrittenAt : List ℕ → (ℤ → List ℕ → Type 0) → ℤ → List ℕ → Type 0
WrittenAt d may n room' = formed d ≡ true → may n room'

abbrev pub NoneWritten : List ℕ → List ℕ → ℤ → List ℕ → Type 0
NoneWritten d room n room' = formed d ≡ false → (n ≡ signed (refused 20)) × (room' ≡ room)

-- a seat, or what else was asked for, and 22 where there is none
abbrev pub seat_answer : Option ℕ → Answer ℕ
seat_answer (Some s) = result s
seat_answer None = refused 22

abbrev pub holder_of : Phase → Option Entry
holder_of Stopped = None
holder_of (Idle t7) = None
holder_of (Taken e b) = Some e
holder_of (Revoking e n) = Some e

-- what is asked of the holder: its seat, and the priority at which it was given the floor; 22 where nobody holds it
abbrev pub of_holder : (Entry → ℕ) → Phase → Answer ℕ
of_holder asked p = seat_answer (option_map asked (holder_of p))

abbrev pub holder_seat : Phase → Answer ℕ
holder_seat p = of_holder (λ e. e.seat) p

abbrev pub holder_priority : Phase → Answer ℕ
holder_priority p = of_holder (λ e. e.priority) p

-- WRITERS: the answer, and what is left in the lent room

-- how much an answer says was written
abbrev pub size_in : Answer ℕ → ℕ
size_in (refused n) = 0
size_in (result n) = n

-- the line for the wall screen, two octets an entry, the head first
abbrev pub pair_at : List Entry → ℕ → List ℕ
pair_at es i = (get_or es i empty).seat ∷ (get_or es i empty).priority ∷ []

unfoldable pub pairs : List Entry → List ℕ
pairs es = rows (pair_at es) 0 (length es)

unfoldable pub screened : List Entry → List ℕ → ℤ × List ℕ
screened es room =
    when leb (2 * length es) (length room) then answers (result (length es)) (over room 0 (pairs es)) else answers (refused 13) room

abbrev pub screen_on : List ℕ → List ℕ → ℤ × List ℕ
screen_on d room = when formed d then screened (waiting (core_at d).line) room else answers (refused 20) room

-- a sheet
abbrev pub saved_answer : Result ℕ Refusal → Answer ℕ
saved_answer (Ok n) = result n
saved_answer (Err r) = refused (saving_refusal_number r)

abbrev pub save_on : List ℕ → List ℕ → ℤ × List ℕ
save_on d room =
    when formed d then answers (saved_answer (saving (hall_at d) (names_at d) room)) (room_after (hall_at d) (names_at d) room)
    else answers (refused 20) room

-- a report's message as its packet; the seat that Taken names has its identity in the desk
abbrev pub identity_in : List ℕ → Kind → List ℕ
identity_in d k = identity.octets_of (name_at (names_at d) (particulars k).seat)

abbrev pub packet_for : List ℕ → Kind → Option Message
packet_for d k = outgoing (settings_at d) k (length (identity_in d k))

abbrev pub tells : List ℕ → List ℕ → Option Kind → ℤ × List ℕ
tells d room None = answers (refused 12) room
tells d room (Some k) = answers (sending (packet_for d k) (identity_in d k) (length room)) (sent (packet_for d k) (identity_in d k) room)

abbrev pub message_on : List ℕ → List ℕ → ℕ → List ℕ → ℤ × List ℕ
message_on d r which room = when formed d then tells d room (told_in r which) else answers (refused 20) room

-- a packet by itself: read into a message's 40 octets, and written out of them
abbrev pub read_on : List ℕ → List ℕ → ℤ × List ℕ
read_on packet room = (told_as (read_held packet (length room)), kept_in packet room)

abbrev pub write_on : List ℕ → List ℕ → List ℕ → ℤ × List ℕ
write_on m source room = answers (writing_of (held_at m) source (length room)) (written_of (held_at m) source room)
