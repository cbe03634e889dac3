-- A sheet written by hand from document 01, "The sheet", with no help from the definitions: it loads, and as what it says. By computing
-- alone, so the definitions are held from outside. Assumes nothing.
use Rattle.std.specs.Prelude.{ℕ, true, false, List, [], ◌∷◌, ◌++◌, IsOk, IfOk, ◌≡◌, refl, replicate}
use Rattle.words.specs.Choice.{when◌then◌else◌}
use Rattle.octets.specs.Octets.{be16, be32, octets16, octets32, part, over}
use Rattle.hall.specs.declared.Flags.{Flags}
use Rattle.hall.specs.Seats.{settings_of, newcomer_of, in_range, empty_hall, seat_of, free_seat, with_seat}
use Rattle.identities.specs.Identity.{octets_of, name_of, no_names, with_name, same, seat_named, length_allowed}
use Rattle.joining.specs.Join.{ssrc_taken, seated, join}
use Rattle.seat_octets.specs.Layout.{flags_octet, flags_of, settings_octets, settings_in, zeros_fit}
use Rattle.sheet.specs.Layout.{Seat, octets_of_seat, seats_octets, trailer, seats_of, sheet, sheet_of}
use Rattle.sheet.specs.Framing.{framing}
use Rattle.saving.specs.Saving.{saving, room_after}
use Rattle.loading.specs.Loading.{who_is, read_seat, laid_out, read_seats, join_all, loading}

-- two seats, a and bc, the settings, the trailer: 37 octets
abbrev pub by_hand : List ℕ
by_hand =
    0x01 ∷ 0xFF ∷ 0x00 ∷ 0x00 ∷ 0x00 ∷ 0x0A ∷ 0x01 ∷ 0x61
    ∷ 0x02 ∷ 0x04 ∷ 0x00 ∷ 0x00 ∷ 0x00 ∷ 0x0B ∷ 0x02 ∷ 0x62 ∷ 0x63
    ∷ 0x00 ∷ 0x00 ∷ 0x00 ∷ 0x01 ∷ 0xC8 ∷ 0x02 ∷ 0x02 ∷ 0x02 ∷ 0x00 ∷ 0x1E ∷ 0x00 ∷ 0x00
    ∷ 0x00 ∷ 0x11 ∷ 0x00 ∷ 0x00 ∷ 0x02 ∷ 0x01 ∷ 0x46 ∷ 0x53 ∷ []

abbrev queues : Flags
queues = record { queueing = true; receive_only = false }

abbrev listens : Flags
listens = record { queueing = false; receive_only = true }

abbrev pub two : List Seat
two =
    record { who = newcomer_of 10 255 queues; identity = 0x61 ∷ [] }
    ∷ record { who = newcomer_of 11 4 listens; identity = 0x62 ∷ 0x63 ∷ [] } ∷ []

-- all that loading and saving stand on, opened, so that a sheet computes
opened : Type 0
unfolding
    loading framing settings_in zeros_fit read_seats read_seat who_is flags_of laid_out join_all join seated ssrc_taken
    seat_named same
    length_allowed seat_of free_seat with_seat with_name name_of octets_of no_names empty_hall in_range seats_of sheet_of sheet seats_octets
    octets_of_seat
    settings_octets trailer flags_octet saving room_after over be16 be32 octets16 octets32 part when◌then◌else◌
opened = ℕ

pub accepted : IsOk (loading by_hand)
unfolding opened
accepted = refl

pub its_seats : IfOk (loading by_hand) (λ d. seats_of d.hall d.names ≡ two)
unfolding opened
its_seats = refl

pub its_settings : IfOk (loading by_hand) (λ d. d.hall.settings ≡ settings_of 1 200 2 2 2 30 0)
unfolding opened
its_settings = refl

-- saved again into a room that is longer by two
pub saved_again : IfOk (loading by_hand) (λ d. room_after d.hall d.names (replicate 39 0xFF) ≡ by_hand ++ (0xFF ∷ 0xFF ∷ []))
unfolding opened
saved_again = refl
