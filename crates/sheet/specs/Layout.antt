-- The layout of document 01, "The sheet". All numbers are big-endian. A sheet is its seats in seat order, then 12 octets of settings, then
-- a trailer of 8 that points back; offsets below count from where the thing itself begins.
--
--     seat      0       flags (seat_octets/specs/Layout)
--               1       highest priority
--               2..5    SSRC
--               6       identity length, 1..62
--               7..     identity
--     settings  0..11   (seat_octets/specs/Layout)
--     trailer   0..1    offset of settings
--               2..3    offset of seats: zero
--               4       seat count
--               5       form
--               6..7    letters F, S
--
-- Assumes nothing.
use Rattle.std.specs.Prelude.{ℕ, zero, suc, ◌+◌, ◌*◌, List, [], ◌∷◌, ◌++◌, length, get_or}
use Rattle.words.specs.Choice.{when◌then◌else◌}
use Rattle.octets.specs.Octets.{octets16, octets32}
use Rattle.hall.specs.declared.Settings.{Settings}
use Rattle.hall.specs.declared.Newcomer.{Newcomer}
use Rattle.hall.specs.declared.Hall.{Hall}
use Rattle.hall.specs.Seats.{newcomer_of, is_present, flags_at}
use Rattle.identities.specs.declared.Names.{Names}
use Rattle.identities.specs.Identity.{octets_of, name_at}
use Rattle.seat_octets.specs.Layout.{flags_octet, settings_size, settings_octets}

-- the form that this sheet has
abbrev pub form : ℕ
form = 1

-- the letters F and S, as one number
abbrev pub sheet_letters : ℕ
sheet_letters = 0x4653

-- the octets of a seat before its identity; of the trailer; of all that stands behind the seats
abbrev pub seat_head : ℕ
seat_head = 7

abbrev pub trailer_size : ℕ
trailer_size = 8

abbrev pub tail_size : ℕ
tail_size = settings_size + trailer_size

-- the longest sheet: sixteen seats, each with an identity of 62 octets
abbrev pub longest_sheet : ℕ
longest_sheet = 16 * (seat_head + 62) + tail_size

-- where things stand in a seat, behind its flags
abbrev pub highest_within : ℕ
highest_within = 1

abbrev pub ssrc_within : ℕ
ssrc_within = 2

abbrev pub length_within : ℕ
length_within = 6

-- a seat as a sheet has it: what a newcomer says of itself, and its identity
pub record Seat : Type 0 where
  pub who : Newcomer
  pub identity : List ℕ

unfoldable pub octets_of_seat : Seat → List ℕ
octets_of_seat x = flags_octet x.who.flags ∷ x.who.highest ∷ octets32 x.who.ssrc ++ length x.identity ∷ x.identity

unfoldable pub seats_octets : List Seat → List ℕ
seats_octets [] = []
seats_octets (x ∷ xs) = octets_of_seat x ++ seats_octets xs

unfoldable pub trailer : ℕ → ℕ → List ℕ
trailer settings_at count = octets16 settings_at ++ octets16 0 ++ count ∷ form ∷ octets16 sheet_letters

-- the sheet of some seats and settings
unfoldable pub sheet : List Seat → Settings → List ℕ
sheet xs s = seats_octets xs ++ settings_octets s ++ trailer (length (seats_octets xs)) (length xs)

-- the seats of a hall, in seat order, gaps closed
abbrev pub who_sits : Hall → ℕ → Newcomer
who_sits h s = newcomer_of (get_or h.ssrcs s 0) (get_or h.highest s 0) (flags_at h s)

abbrev pub seat_at : Hall → Names → ℕ → Seat
seat_at h ns s = record { who = who_sits h s; identity = octets_of (name_at ns s) }

abbrev pub seats_from : Hall → Names → ℕ → ℕ → List Seat
seats_from h ns zero s = []
seats_from h ns (suc n) s = when is_present h s then seat_at h ns s ∷ seats_from h ns n (suc s) else seats_from h ns n (suc s)

unfoldable pub seats_of : Hall → Names → List Seat
seats_of h ns = seats_from h ns 16 0

-- the sheet of a hall and the names of those who sit there
unfoldable pub sheet_of : Hall → Names → List ℕ
sheet_of h ns = sheet (seats_of h ns) h.settings
