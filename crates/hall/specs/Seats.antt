-- The sixteen seats and the settings of document 01, "The desk", without the identities. Assumes nothing.
use Rattle.std.specs.Prelude.{ℕ, zero, suc, Bool, true, false, not, ◌&&◌, List, [], ◌∷◌, leb, eqb, get_or, set, replicate}
use Rattle.std.specs.Prelude.{Option, Some, None}
use Rattle.words.specs.Choice.{when◌then◌else◌}
use Rattle.hall.specs.declared.Settings.{Settings}
use Rattle.hall.specs.declared.Flags.{Flags}
use Rattle.hall.specs.declared.Hall.{Hall}
use Rattle.hall.specs.declared.Newcomer.{Newcomer}

-- the settings of a desk, and what a newcomer says of itself, from their parts
abbrev pub settings_of : ℕ → ℕ → ℕ → ℕ → ℕ → ℕ → ℕ → Settings
settings_of ssrc level limit c7 c20 duration normal =
    record { ssrc = ssrc; level = level; limit = limit; c7 = c7; c20 = c20; duration = duration; normal = normal }

abbrev pub newcomer_of : ℕ → ℕ → Flags → Newcomer
newcomer_of ssrc highest flags = record { ssrc = ssrc; highest = highest; flags = flags }

abbrev pub no_flags : Flags
no_flags = record { queueing = false; receive_only = false }

-- zeros throughout; out of range, so that no desk is made with them
abbrev pub no_settings : Settings
no_settings = settings_of 0 0 0 0 0 0 0

-- 28: level 1..255, line limit 0..15, C7 and C20 limits 1..255, duration 1..65535; normal level 0..255 (document 02, #101). The ends that a
-- setting's own type has are not asked again: both ends of the normal level are such.
unfoldable pub in_range : Settings → Bool
in_range s = leb 1 s.level && leb s.limit 15 && leb 1 s.c7 && leb 1 s.c20 && leb 1 s.duration

-- a hall with no seat taken; a free seat has zeros throughout
unfoldable pub empty_hall : Settings → Hall
empty_hall s =
    record { present = replicate 16 false; ssrcs = replicate 16 0; highest = replicate 16 0; flags = replicate 16 no_flags; settings = s }

-- what is known of a seat
abbrev pub is_present : Hall → ℕ → Bool
is_present h s = get_or h.present s false

abbrev pub flags_at : Hall → ℕ → Flags
flags_at h s = get_or h.flags s no_flags

abbrev pub queues : Hall → ℕ → Bool
queues h s = (flags_at h s).queueing

abbrev pub receives_only : Hall → ℕ → Bool
receives_only h s = (flags_at h s).receive_only

-- sets of seats: one alone, all that are present, and all of those but one
abbrev pub only : ℕ → List Bool
only s = set (replicate 16 false) s true

abbrev pub everybody : Hall → List Bool
everybody h = h.present

abbrev pub others : Hall → ℕ → List Bool
others h s = set h.present s false

abbrev pub someone : List Bool → Bool
someone [] = false
someone (b ∷ bs) = when b then true else someone bs

-- a seat is alone in the call if no other is present
unfoldable pub alone : Hall → ℕ → Bool
alone h s = not (someone (others h s))

-- The effective priority: what was asked, but at most the seat's highest. "A request without the field counts as that level, still capped
-- by the seat's highest" (document 02, #101): the normal level. A field that says 0 is 0.
abbrev pub asked : ℕ → Option ℕ → ℕ
asked normal (Some p) = p
asked normal None = normal

abbrev pub lower : ℕ → ℕ → ℕ
lower a b = when leb a b then a else b

unfoldable pub effective : Hall → ℕ → Option ℕ → ℕ
effective h s a = lower (asked h.settings.normal a) (get_or h.highest s 0)

-- the lowest seat for which a test holds
abbrev pub first_from : (ℕ → Bool) → ℕ → ℕ → Option ℕ
first_from test zero s = None
first_from test (suc n) s = when test s then Some s else first_from test n (suc s)

abbrev pub lowest : (ℕ → Bool) → Option ℕ
lowest test = first_from test 16 0

-- whether a search found this seat
abbrev pub finds : Option ℕ → ℕ → Bool
finds (Some t) s = eqb t s
finds None s = false

-- packets and media name their seat by SSRC
abbrev pub has_ssrc : Hall → ℕ → ℕ → Bool
has_ssrc h x s = is_present h s && eqb (get_or h.ssrcs s 0) x

unfoldable pub seat_of : Hall → ℕ → Option ℕ
seat_of h x = lowest (has_ssrc h x)

unfoldable pub free_seat : Hall → Option ℕ
free_seat h = lowest (λ s. not (is_present h s))

-- the hall once a seat is what is told of it
unfoldable pub with_seat : Hall → ℕ → Bool → Newcomer → Hall
with_seat h s here n =
    record {
      present = set h.present s here;
      ssrcs = set h.ssrcs s n.ssrc;
      highest = set h.highest s n.highest;
      flags = set h.flags s n.flags;
      settings = h.settings;
    }

abbrev pub no_one : Newcomer
no_one = newcomer_of 0 0 no_flags

abbrev pub vacated : Hall → ℕ → Hall
vacated h s = with_seat h s false no_one
