-- The test of the seats, asked of the octets themselves: "no two seats have the same SSRC or the same identity, and none the desk's SSRC;
-- identities have 1 to 62 octets", "zeros behind it", "zero for a free one" (docs/FORMS.md, the form of document 01, "The desk").
-- Assumes nothing.
use Rattle.desk_octets.specs.Places.{taken_column, ssrcs_column, highest_column, flags_column, settings_start, lengths_column}
use Rattle.desk_octets.specs.Places.{identities_column}
use Rattle.std.specs.Prelude.{ℕ, ◌+◌, ◌*◌, ◌-◌, Bool, not, ◌&&◌, List, leb, eqb}
use Rattle.words.specs.Choice.{when◌then◌else◌}
use Rattle.words.specs.Below.{all_below}
use Rattle.octets.specs.Octets.{be32, nth_octet}
use Rattle.hall.specs.Seats.{in_range}
use Rattle.desk_octets.specs.Form.{bool_at, settings_at, up_to}
use Rattle.identity_octets.specs.Identity.{same_octets}

-- what stands there of a seat
abbrev pub taken_at : List ℕ → ℕ → Bool
taken_at s seat = bool_at s (taken_column + seat)

abbrev pub ssrc_in_octets : List ℕ → ℕ → ℕ
ssrc_in_octets s seat = be32 s (ssrcs_column + 4 * seat)

abbrev pub name_length_at : List ℕ → ℕ → ℕ
name_length_at s seat = nth_octet s (lengths_column + seat)

abbrev pub identity_start : ℕ → ℕ
identity_start seat = identities_column + 62 * seat

-- a taken seat that has this SSRC; one that has the identity of another
unfoldable pub has_ssrc_of : List ℕ → ℕ → ℕ → Bool
has_ssrc_of s ssrc seat = taken_at s seat && eqb (ssrc_in_octets s seat) ssrc

unfoldable pub has_name_of : List ℕ → ℕ → ℕ → Bool
has_name_of s other seat =
    taken_at s seat && eqb (name_length_at s seat) (name_length_at s other) && same_octets s (identity_start seat) (identity_start other)

-- no earlier seat has what this one has
unfoldable pub ssrc_first : List ℕ → ℕ → Bool
ssrc_first s seat = all_below (λ t. not (has_ssrc_of s (ssrc_in_octets s seat) t)) seat

unfoldable pub name_first : List ℕ → ℕ → Bool
name_first s seat = all_below (λ t. not (has_name_of s seat t)) seat

-- zeros behind a seat's identity
unfoldable pub zeros_behind : List ℕ → ℕ → Bool
zeros_behind s seat = up_to 0 s (identity_start seat + name_length_at s seat) (62 - name_length_at s seat)

unfoldable pub taken_fits : List ℕ → ℕ → Bool
taken_fits s seat =
    not (eqb (ssrc_in_octets s seat) (be32 s settings_start)) && ssrc_first s seat && leb 1 (name_length_at s seat) && name_first s seat

unfoldable pub free_fits : List ℕ → ℕ → Bool
free_fits s seat =
    eqb (ssrc_in_octets s seat) 0 && eqb (nth_octet s (highest_column + seat)) 0 && eqb (nth_octet s (flags_column + seat)) 0
    && eqb (name_length_at s seat) 0

unfoldable pub seat_fits : List ℕ → ℕ → Bool
seat_fits s seat = zeros_behind s seat && (when taken_at s seat then taken_fits s seat else free_fits s seat)

unfoldable pub seats_fit : List ℕ → Bool
seats_fit s = in_range (settings_at s) && all_below (seat_fits s) 16
