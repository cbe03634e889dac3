-- How a sheet is framed (document 01, "The sheet"): what its trailer says, read back from the end of any octets whatever, and the refusals
-- of it, 41, 42 and 43. Assumes nothing.
use Rattle.std.specs.Prelude.{ℕ, ◌+◌, ◌-◌, not, ◌||◌, Result, Ok, Err, List, ltb, eqb, length, get_or}
use Rattle.words.specs.Choice.{when◌then◌else◌}
use Rattle.octets.specs.Octets.{be16}
use Rattle.sheet.specs.declared.Refusal.{Refusal}
use Rattle.sheet.specs.declared.Refusal.TheVariants.{NotASheet, OtherForm, WrongPlaces, OutsideRange, SeatAtFault}
use Rattle.sheet.specs.Layout.{form, sheet_letters, trailer_size, tail_size}

-- where the settings and the trailer stand
abbrev pub settings_place : List ℕ → ℕ
settings_place s = length s - tail_size

abbrev pub trailer_place : List ℕ → ℕ
trailer_place s = length s - trailer_size

-- what the trailer says
abbrev pub settings_offset : List ℕ → ℕ
settings_offset s = be16 s (trailer_place s)

abbrev pub seats_offset : List ℕ → ℕ
seats_offset s = be16 s (trailer_place s + 2)

abbrev pub seat_count : List ℕ → ℕ
seat_count s = get_or s (trailer_place s + 4) 0

abbrev pub form_of : List ℕ → ℕ
form_of s = get_or s (trailer_place s + 5) 0

abbrev pub letters_of : List ℕ → ℕ
letters_of s = be16 s (trailer_place s + 6)

-- the paper's numbers of the refusals, and of a verdict: 0 is accepted
abbrev pub sheet_refusal_number : Refusal → ℕ
sheet_refusal_number NotASheet = 41
sheet_refusal_number OtherForm = 42
sheet_refusal_number WrongPlaces = 43
sheet_refusal_number OutsideRange = 44
sheet_refusal_number SeatAtFault = 45

abbrev pub verdict_number : Result (Unit {0}) Refusal → ℕ
verdict_number (Ok _) = 0
verdict_number (Err r) = sheet_refusal_number r

-- 41 under 20 octets or no FS; 42 form; 43 count above 16, settings not 20 octets before the end, or seats' offset not zero
unfoldable pub framing : List ℕ → Result (Unit {0}) Refusal
framing s =
    when ltb (length s) tail_size || not (eqb (letters_of s) sheet_letters) then Err NotASheet
    else when not (eqb (form_of s) form) then Err OtherForm
    else when ltb 16 (seat_count s) || not (eqb (settings_offset s + tail_size) (length s)) || not (eqb (seats_offset s) 0)
    then Err WrongPlaces
    else Ok tt
