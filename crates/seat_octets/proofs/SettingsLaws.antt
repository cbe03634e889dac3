-- The settings as octets: they read back, the octets are written again, and each fits. Assumes nothing.
use Prim.Native.Nat.{ℕ, zero, suc, ◌+◌, ◌*◌, ◌/◌, ◌<◌}
use native.Mathlib.Nat.{add-zero}
use native.Mathlib.Omega.{arith}
use mathlib.Core.Bool.{◌&&◌}
use mathlib.Core.List.{List, [], ◌∷◌, ◌++◌}
use mathlib.Core.Path.{◌≡◌, refl, ap, sym, ◌∙◌}
use lib.Dec.{eqb}
use lib.ListN.{get_or, take, drop}
use Rattle.std.proofs.lemmas.Bool.Decides.{nat_tests}
use borrow.Author.Tests.{eqb-true, eq-eqb}
use Rattle.octets.specs.Octets.{be16, be32, octets16, octets32, part, Octets}
use Rattle.hall.specs.declared.Settings.{Settings}
use Rattle.seat_octets.specs.Layout.{level_within, limit_within, c7_within, c20_within, duration_within, normal_within, unused_within}
use Rattle.seat_octets.specs.Layout.{settings_size, settings_octets, settings_in, unused_zero, zeros_fit}
use Rattle.seat_octets.specs.Laws.{SettingsLong, SettingsBack, SettingsForth, ZerosSay, SettingsAreOctets, SettingsReadFit}
use Rattle.seat_octets.proofs.Numbers.{number_again, long_again, octet_at_lem, be16-at, be32-at, run, run_is, word_back, long_back}

pub settings_long : SettingsLong
unfolding settings_octets octets32 octets16
settings_long g = refl

-- what a proof about their octets opens
unfoldable pub laid : Type 0
unfolding settings_octets octets32 octets16
laid = ℕ

-- what stands in their octets, with others behind them
module _ (g : Settings) (q : List ℕ) where
  opens : Type 0
  unfolding settings_octets octets32 octets16 be16 be32
  opens = ℕ

  ssrc_there : be32 (settings_octets g ++ q) 0 ≡ g.ssrc
  unfolding opens
  ssrc_there = long_again g.ssrc

  level_there : get_or (settings_octets g ++ q) level_within 0 ≡ g.level
  unfolding opens
  level_there = refl

  limit_there : get_or (settings_octets g ++ q) limit_within 0 ≡ g.limit
  unfolding opens
  limit_there = refl

  c7_there : get_or (settings_octets g ++ q) c7_within 0 ≡ g.c7
  unfolding opens
  c7_there = refl

  c20_there : get_or (settings_octets g ++ q) c20_within 0 ≡ g.c20
  unfolding opens
  c20_there = refl

  duration_there : be16 (settings_octets g ++ q) duration_within ≡ g.duration
  unfolding opens
  duration_there = number_again g.duration

  normal_there : get_or (settings_octets g ++ q) normal_within 0 ≡ g.normal
  unfolding opens
  normal_there = refl

  unused_there : get_or (settings_octets g ++ q) unused_within 0 ≡ 0
  unfolding opens
  unused_there = refl

pub settings_back : SettingsBack
unfolding settings_in unused_zero
settings_back s p q at g is here =
    let r = settings_octets g ++ q in (
      rw (
        be32-at s p r is at 0 (omega arith) ∙ ssrc_there g q,
        octet_at_lem s p r is (at + level_within) level_within (omega arith) ∙ level_there g q,
        octet_at_lem s p r is (at + limit_within) limit_within (omega arith) ∙ limit_there g q,
        octet_at_lem s p r is (at + c7_within) c7_within (omega arith) ∙ c7_there g q,
        octet_at_lem s p r is (at + c20_within) c20_within (omega arith) ∙ c20_there g q,
        be16-at s p r is (at + duration_within) duration_within (omega arith) ∙ duration_there g q,
        octet_at_lem s p r is (at + normal_within) normal_within (omega arith) ∙ normal_there g q,
      ),
      eq-eqb (get_or s (at + unused_within) 0) 0
          (octet_at_lem s p r is (at + unused_within) unused_within (omega arith) ∙ unused_there g q),
    )

-- the octets where the settings were read, from their numbers, with what stands where no setting does
abbrev row : List ℕ → ℕ → ℕ → ℕ → List ℕ
row s m at z =
    octets32 (be32 s m) ++ get_or s (at + level_within) 0 ∷ get_or s (at + limit_within) 0 ∷ get_or s (at + c7_within) 0
    ∷ get_or s (at + c20_within) 0 ∷ octets16 (be16 s (at + duration_within)) ++ get_or s (at + normal_within) 0 ∷ z ∷ []

row-run : (s : List ℕ) → Octets s → (at : ℕ) → row s (at + 0) at (get_or s (at + unused_within) 0) ≡ run s at 0 settings_size
row-run s o at = rw (long_back s o at 0, word_back s o at duration_within)

pub settings_forth : SettingsForth
unfolding settings_octets settings_in unused_zero part
settings_forth s at o h z =
    let none = eqb-true (get_or s (at + unused_within) 0) 0 z in
    ap (λ (m : ℕ). row s m at 0) (sym (add-zero at)) ∙ ap (row s (at + 0) at) (sym none) ∙ row-run s o at
    ∙ run_is s at 0 settings_size (omega arith) ∙ ap (λ (m : ℕ). take settings_size (drop m s)) (add-zero at)

-- a number of two octets is 0 where both are
two_zeros : (a b : ℕ) → eqb (256 * a + b) 0 ≡ eqb a 0 && eqb b 0
two_zeros a b = grind (arith, nat_tests)

pub zeros_say : ZerosSay
unfolding zeros_fit settings_in unused_zero be16
zeros_say s at =
    let here : at + normal_within + 1 ≡ at + unused_within = omega arith in
    two_zeros (get_or s (at + normal_within) 0) (get_or s (at + normal_within + 1) 0)
    ∙ ap (λ (i : ℕ). eqb (get_or s (at + normal_within) 0) 0 && eqb (get_or s i 0) 0) here

-- octets one by one
abbrev Each : List ℕ → Type 0
Each [] = Unit {0}
Each (x ∷ l) = (x < 256) × Each l

each_at : (l : List ℕ) → Each l → Octets l
each_at [] e i = omega arith
each_at (x ∷ l) e zero = e.0
each_at (x ∷ l) e (suc i) = each_at l e.1 i

pub settings_are_octets : SettingsAreOctets
unfolding settings_octets octets32 octets16
settings_are_octets g k =
    let a : g.ssrc / 65536 < 65536 = omega (arith, k.ssrc) in
    each_at (settings_octets g) (
      omega (arith, a),
      (
        omega arith,
        (
          omega arith,
          (
            omega arith,
            (k.level, (k.limit, (k.c7, (k.c20, (omega (arith, k.duration), (omega arith, (k.normal, (omega arith, tt)))))))),
          ),
        ),
      ),
    )

pub settings_read_fit : SettingsReadFit
unfolding settings_in be32 be16
settings_read_fit s at o =
    record {
      ssrc = omega (arith, o at, o (at + 1), o (at + 2), o (at + 2 + 1));
      level = o (at + level_within);
      limit = o (at + limit_within);
      c7 = o (at + c7_within);
      c20 = o (at + c20_within);
      duration = omega (arith, o (at + duration_within), o (at + duration_within + 1));
      normal = o (at + normal_within);
    }
