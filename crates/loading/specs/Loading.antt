-- Loading (document 01, "The sheet", 41 to 45), for any octets whatever. Assumes nothing.
use Rattle.std.specs.Prelude.{ℕ, zero, suc, ◌+◌, ◌≡◌, Bool, not, ◌&&◌, ◌||◌, List, [], ◌∷◌, Option, Some, None, Result, Ok, Err, leb, eqb}
use Rattle.std.specs.Prelude.{get_or}
use Rattle.std.specs.Option.{option_map}
use Rattle.std.specs.Result.{result_and}
use Rattle.words.specs.Choice.{when◌then◌else◌}
use Rattle.octets.specs.Octets.{be32, part}
use Rattle.hall.specs.declared.Settings.{Settings}
use Rattle.hall.specs.declared.Newcomer.{Newcomer}
use Rattle.hall.specs.declared.Hall.{Hall}
use Rattle.hall.specs.Seats.{newcomer_of, in_range, empty_hall}
use Rattle.identities.specs.declared.Names.{Names}
use Rattle.identities.specs.Identity.{no_names}
use Rattle.joining.specs.Join.{join}
use Rattle.events.specs.declared.Desk.{Desk}
use Rattle.events.specs.Events.{fresh}
use Rattle.seat_octets.specs.Layout.{flags_of, flags_top, settings_in, zeros_fit}
use Rattle.sheet.specs.declared.Refusal.{Refusal}
use Rattle.sheet.specs.declared.Refusal.TheVariants.{OutsideRange, SeatAtFault}
use Rattle.sheet.specs.Layout.{Seat, seat_head, highest_within, ssrc_within, length_within}
use Rattle.sheet.specs.Framing.{settings_place, seat_count, framing}

-- "A loaded desk is fresh"
abbrev pub loaded : Hall → Names → Desk
loaded h ns = record { core = fresh; hall = h; names = ns }

-- the settings of a sheet
abbrev pub settings_on : List ℕ → Settings
settings_on s = settings_in s (settings_place s)

-- the seat that begins at a place
abbrev pub identity_length : List ℕ → ℕ → ℕ
identity_length s at = get_or s (at + length_within) 0

abbrev pub after_seat : List ℕ → ℕ → ℕ
after_seat s at = at + seat_head + identity_length s at

unfoldable pub who_is : List ℕ → ℕ → Newcomer
who_is s at = newcomer_of (be32 s (at + ssrc_within)) (get_or s (at + highest_within) 0) (flags_of (get_or s at 0))

unfoldable pub read_seat : List ℕ → ℕ → Seat
read_seat s at = record { who = who_is s at; identity = part s (at + seat_head) (identity_length s at) }

-- 45, the layout: a seat has no flag but the two, and ends before the settings
unfoldable pub laid_out : List ℕ → ℕ → Bool
laid_out s at = leb (after_seat s at) (settings_place s) && leb (get_or s at 0) flags_top

-- so many seats from a place on, if none is at fault and the last ends at the settings
unfoldable pub read_seats : ℕ → List ℕ → ℕ → Option (List Seat)
read_seats zero s at = when eqb at (settings_place s) then Some [] else None
read_seats (suc n) s at =
    when laid_out s at then option_map (λ (xs : List Seat). read_seat s at ∷ xs) (read_seats n s (after_seat s at)) else None

-- 45, join's rules: the seats join one after the other, in sheet order
abbrev pub if_seated : Option ℕ → Result Desk Refusal → Result Desk Refusal
if_seated (Some s) l = l
if_seated None l = Err SeatAtFault

unfoldable pub join_all : Hall → Names → List Seat → Result Desk Refusal
join_all h ns [] = Ok (loaded h ns)
join_all h ns (x ∷ xs) =
    let j = join h ns x.identity x.who in
    if_seated j.seat (join_all j.hall j.names xs)

abbrev pub seat_all : Hall → Names → Option (List Seat) → Result Desk Refusal
seat_all h ns (Some xs) = join_all h ns xs
seat_all h ns None = Err SeatAtFault

-- 44 and 45, once the trailer is in order
abbrev pub settled : List ℕ → Result Desk Refusal
settled s =
    when not (in_range (settings_on s)) || not (zeros_fit s (settings_place s)) then Err OutsideRange
    else seat_all (empty_hall (settings_on s)) no_names (read_seats (seat_count s) s 0)

-- 41, 42 and 43, and then these
unfoldable pub loading : List ℕ → Result Desk Refusal
loading s = result_and (framing s) (settled s)

-- what `loading::load` promises of its answer r
abbrev pub Loads : List ℕ → Result Desk Refusal → Type 0
Loads s r = r ≡ loading s
