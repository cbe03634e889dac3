-- Join, by document 01, "The desk": tests 25, 26, 27, 24 and takes the lowest free seat. Assumes nothing.
use Rattle.std.specs.Prelude.{ℕ, Bool, true, not, List, Option, Some, None, is_some, Ok, Err, eqb}
use Rattle.words.specs.Choice.{when◌then◌else◌}
use Rattle.hall.specs.declared.Refusal.{Refusal}
use Rattle.hall.specs.declared.Refusal.TheVariants.{AllSeatsTaken, IdentityLength, IdentityPresent, SsrcPresent}
use Rattle.hall.specs.declared.Hall.{Hall}
use Rattle.identities.specs.declared.Names.{Names}
use Rattle.hall.specs.declared.Newcomer.{Newcomer}
use Rattle.joining.specs.declared.Joined.{Joined}
use Rattle.hall.specs.Seats.{seat_of, free_seat, with_seat}
use Rattle.identities.specs.Identity.{seat_named, name_of, with_name, length_allowed}

-- 27: the SSRC is present already, or it is the desk's
unfoldable pub ssrc_taken : Hall → ℕ → Bool
ssrc_taken h x = when eqb x h.settings.ssrc then true else is_some (seat_of h x)

abbrev pub not_joined : Hall → Names → Refusal → Joined
not_joined h ns r = record { answer = Err r; seat = None; hall = h; names = ns }

-- the newcomer takes a free seat, if there is one
unfoldable pub seated : Hall → Names → List ℕ → Newcomer → Option ℕ → Joined
seated h ns o n None = not_joined h ns AllSeatsTaken
seated h ns o n (Some s) = record { answer = Ok tt; seat = Some s; hall = with_seat h s true n; names = with_name ns s (name_of o) }

unfoldable pub join : Hall → Names → List ℕ → Newcomer → Joined
join h ns o n =
    when not (length_allowed o) then not_joined h ns IdentityLength
    else when is_some (seat_named h ns o) then not_joined h ns IdentityPresent
    else when ssrc_taken h n.ssrc then not_joined h ns SsrcPresent
    else seated h ns o n (free_seat h)
