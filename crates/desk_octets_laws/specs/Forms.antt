-- "One desk has one such string of octets, and one string stands for one desk" (docs/FORMS.md; document 01, "The desk": "which stand for
-- that desk alone"). Each statement here is proved in proofs/, in the file named beside it. No bound on a number is asked on the way back;
-- on the way forth an octet is below 256. Assumes nothing.
use Rattle.desk_octets.specs.Places.{phase_place}
use Rattle.std.specs.Prelude.{ℕ, ◌≡◌, true, List}
use Rattle.octets.specs.Octets.{over, Octets}
use Rattle.line.specs.Line.{waiting, line_of}
use Rattle.hall.specs.declared.Hall.{Hall}
use Rattle.identities.specs.declared.Names.{Names}
use Rattle.identities.specs.Identity.{name_of, name_at, Sixteen}
use Rattle.identities.specs.Identity as identity
use Rattle.steps.specs.declared.Core.{Core}
use Rattle.desk_octets.specs.Form.{core_octets, octets_of_desk, core_at, hall_at, names_at, canonical}

-- a desk of the right shape, as steps leave every desk: columns of sixteen, empty places behind those who wait, zeros behind an identity
pub record Shaped (c : Core) (h : Hall) (ns : Names) : Type 0 where
  pub line : c.line ≡ line_of (waiting c.line)
  pub columns : Sixteen h ns
  pub behind : (s : ℕ) → name_at ns s ≡ name_of (identity.octets_of (name_at ns s))

-- the octets stand for this desk
pub record StandsFor (s : List ℕ) (c : Core) (h : Hall) (ns : Names) : Type 0 where
  pub core : core_at s ≡ c
  pub hall : hall_at s ≡ h
  pub names : names_at s ≡ ns

-- Back (proofs/Fits, on proofs/Back): the octets of a desk hold what the table says, and stand for that desk
pub record Back (c : Core) (h : Hall) (ns : Names) : Type 0 where
  pub stands : StandsFor (octets_of_desk c h ns) c h ns
  pub holds : canonical (octets_of_desk c h ns) ≡ true

abbrev pub EveryDeskBack : Type 0
EveryDeskBack = (c : Core) (h : Hall) (ns : Names) → Shaped c h ns → Back c h ns

-- Forth (proofs/One): octets that hold what the table says are those of the desk that they stand for
abbrev pub EveryStringForth : Type 0
EveryStringForth = (s : List ℕ) → Octets s → canonical s ≡ true → octets_of_desk (core_at s) (hall_at s) (names_at s) ≡ s

-- One (proofs/One): so two strings that stand for one desk are the same
abbrev pub OneString : Type 0
OneString =
    (s t : List ℕ) → Octets s → Octets t → canonical s ≡ true → canonical t ≡ true → (c : Core) (h : Hall) (ns : Names) →
    StandsFor s c h ns →
    StandsFor t c h ns → s ≡ t

-- Written (proofs/One): the core written into octets that hold what the table says leaves those of the desk with that core
abbrev pub CoreWritten : Type 0
CoreWritten =
    (s : List ℕ) → Octets s → canonical s ≡ true → (c : Core) →
    over s phase_place (core_octets c) ≡ octets_of_desk c (hall_at s) (names_at s)
