-- What a seat's flags and the settings as octets keep: each reads back as it was, and each octet that was read is written again. Proved in
-- proofs/. Assumes nothing.
use Rattle.std.specs.Prelude.{ℕ, ◌+◌, ◌≤◌, true, ◌&&◌, List, ◌++◌, ◌≡◌, eqb, length}
use Rattle.octets.specs.Octets.{Octets, part}
use Rattle.hall.specs.declared.Flags.{Flags}
use Rattle.hall.specs.declared.Settings.{Settings}
use Rattle.seat_octets.specs.Layout.{flags_octet, flags_of, flags_top, settings_size, settings_octets, settings_in, unused_zero, zeros_fit}
use Rattle.seat_octets.specs.Layout.{SettingsFit}

-- flags; an octet up to the top is one that says flags, and no other is
abbrev pub FlagsBack : Type 0
FlagsBack = (f : Flags) → flags_of (flags_octet f) ≡ f

abbrev pub FlagsFew : Type 0
FlagsFew = (f : Flags) → flags_octet f ≤ flags_top

abbrev pub FlagsForth : Type 0
FlagsForth = (n : ℕ) → n ≤ flags_top → flags_octet (flags_of n) ≡ n

-- settings, with any octets before and behind them
abbrev pub SettingsLong : Type 0
SettingsLong = (g : Settings) → length (settings_octets g) ≡ settings_size

abbrev pub SettingsBack : Type 0
SettingsBack = (s p q : List ℕ) (at : ℕ) (g : Settings) → s ≡ p ++ (settings_octets g ++ q) → at ≡ length p →
    (settings_in s at ≡ g) × (unused_zero s at ≡ true)

abbrev pub SettingsForth : Type 0
SettingsForth = (s : List ℕ) (at : ℕ) → Octets s → at + settings_size ≤ length s → unused_zero s at ≡ true →
    settings_octets (settings_in s at) ≡ part s at settings_size

-- a sheet's two zeros are the normal level 0, and the octet that no setting has
abbrev pub ZerosSay : Type 0
ZerosSay = (s : List ℕ) (at : ℕ) → zeros_fit s at ≡ eqb (settings_in s at).normal 0 && unused_zero s at

-- settings that fit are octets, and octets are settings that fit
abbrev pub SettingsAreOctets : Type 0
SettingsAreOctets = (g : Settings) → SettingsFit g → Octets (settings_octets g)

abbrev pub SettingsReadFit : Type 0
SettingsReadFit = (s : List ℕ) (at : ℕ) → Octets s → SettingsFit (settings_in s at)
