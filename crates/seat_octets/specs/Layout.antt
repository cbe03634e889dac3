-- A seat's flags and the settings of a desk as octets, the same on a sheet (document 01, "The sheet") and among a desk's octets
-- (docs/FORMS.md). All numbers are big-endian; places count from where the settings begin.
--
--     flags     bit 0 queueing, bit 1 receive only, others zero
--     settings  0..3    SSRC of the desk
--               4       pre-emptive level
--               5       line limit
--               6       C7 limit
--               7       C20 limit
--               8..9    duration
--               10      normal level (document 02, #101); a sheet, which is of form 1, has zero there, as document 01 says
--               11      zero
--
-- Assumes nothing.
use Rattle.std.specs.Prelude.{ℕ, ◌+◌, ◌/◌, ◌%◌, ◌<◌, Bool, List, [], ◌∷◌, ◌++◌, eqb, get_or}
use Rattle.words.specs.Choice.{when◌then◌else◌}
use Rattle.octets.specs.Octets.{be16, be32, octets16, octets32}
use Rattle.hall.specs.declared.Flags.{Flags}
use Rattle.hall.specs.declared.Settings.{Settings}
use Rattle.hall.specs.Seats.{settings_of}

unfoldable pub flags_octet : Flags → ℕ
flags_octet f = (when f.queueing then 1 else 0) + (when f.receive_only then 2 else 0)

unfoldable pub flags_of : ℕ → Flags
flags_of n = record { queueing = eqb (n % 2) 1; receive_only = eqb (n / 2 % 2) 1 }

-- the greatest octet that says flags: all of them set
abbrev pub flags_top : ℕ
flags_top = 3

-- how many octets the settings have, and where things stand among them, behind the SSRC
abbrev pub settings_size : ℕ
settings_size = 12

abbrev pub level_within : ℕ
level_within = 4

abbrev pub limit_within : ℕ
limit_within = 5

abbrev pub c7_within : ℕ
c7_within = 6

abbrev pub c20_within : ℕ
c20_within = 7

abbrev pub duration_within : ℕ
duration_within = 8

abbrev pub normal_within : ℕ
normal_within = 10

abbrev pub unused_within : ℕ
unused_within = 11

unfoldable pub settings_octets : Settings → List ℕ
settings_octets s = octets32 s.ssrc ++ s.level ∷ s.limit ∷ s.c7 ∷ s.c20 ∷ octets16 s.duration ++ s.normal ∷ 0 ∷ []

-- the settings that stand at a place
unfoldable pub settings_in : List ℕ → ℕ → Settings
settings_in s at =
    settings_of (be32 s at) (get_or s (at + level_within) 0) (get_or s (at + limit_within) 0) (get_or s (at + c7_within) 0)
    (get_or s (at + c20_within) 0) (be16 s (at + duration_within)) (get_or s (at + normal_within) 0)

-- the octet that no setting has is zero: a desk's octets are asked for it (20)
unfoldable pub unused_zero : List ℕ → ℕ → Bool
unused_zero s at = eqb (get_or s (at + unused_within) 0) 0

-- the two zeros of a sheet (44): it has no normal level, and the octet behind that is zero too
unfoldable pub zeros_fit : List ℕ → ℕ → Bool
zeros_fit s at = eqb (be16 s (at + normal_within)) 0

-- each setting fits the octets that it has
pub record SettingsFit (s : Settings) : Type 0 where
  pub ssrc : s.ssrc < 4294967296
  pub level : s.level < 256
  pub limit : s.limit < 256
  pub c7 : s.c7 < 256
  pub c20 : s.c20 < 256
  pub duration : s.duration < 65536
  pub normal : s.normal < 256
