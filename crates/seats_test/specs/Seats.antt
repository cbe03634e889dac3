-- The test of the seats (document 01, "The desk": "Octets not in that form get 20"): the words of docs/FORMS.md on the seats, the settings
-- and the identities that octets stand for, as Bools. What a value's own type gives (how many seats there are) is not tested. Assumes
-- nothing.
use Rattle.std.specs.Prelude.{ℕ, Bool, not, ◌&&◌, ◌||◌, eqb, ltb, length, get_or}
use Rattle.words.specs.Choice.{when◌then◌else◌}
use Rattle.words.specs.Below.{all_below}
use Rattle.hall.specs.declared.Hall.{Hall}
use Rattle.identities.specs.declared.Name.{Name}
use Rattle.identities.specs.declared.Names.{Names}
use Rattle.hall.specs.Seats.{is_present, flags_at, seat_of, in_range, finds}
use Rattle.seat_octets.specs.Layout.{flags_octet}
use Rattle.identities.specs.Identity.{octets_of, name_at, seat_named, length_allowed}

-- the octets behind an identity are zero
unfoldable pub octet_behind : Name → ℕ → Bool
octet_behind n i = ltb i (length (octets_of n)) || eqb (get_or n.octets i 0) 0

unfoldable pub name_sound : Name → Bool
name_sound n = eqb n.len (length (octets_of n)) && all_below (octet_behind n) 62

-- a taken seat is the one that its SSRC and its identity find, so that no two seats have the same; a free one has zeros
abbrev pub ssrc_at : Hall → ℕ → ℕ
ssrc_at h s = get_or h.ssrcs s 0

unfoldable pub taken_sound : Hall → Names → ℕ → Bool
taken_sound h ns s =
    not (eqb (ssrc_at h s) h.settings.ssrc) && finds (seat_of h (ssrc_at h s)) s && length_allowed (octets_of (name_at ns s))
    && finds (seat_named h ns (octets_of (name_at ns s))) s

unfoldable pub free_sound : Hall → Names → ℕ → Bool
free_sound h ns s =
    eqb (ssrc_at h s) 0 && eqb (get_or h.highest s 0) 0 && eqb (flags_octet (flags_at h s)) 0 && eqb (length (octets_of (name_at ns s))) 0

unfoldable pub seat_sound : Hall → Names → ℕ → Bool
seat_sound h ns s = name_sound (name_at ns s) && (when is_present h s then taken_sound h ns s else free_sound h ns s)

unfoldable pub seats_sound : Hall → Names → Bool
seats_sound h ns = in_range h.settings && all_below (seat_sound h ns) 16
