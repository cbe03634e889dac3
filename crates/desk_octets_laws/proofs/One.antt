-- Forth, and one desk, one string; and what is left of the octets where the core is written. Assumes nothing.
use Prim.Native.Nat.{ℕ}
use mathlib.Core.Path.{◌≡◌, sym, ◌∙◌}
use mathlib.Core.Bool.{true}
use mathlib.Core.List.{List}
use Rattle.octets.specs.Octets.{Octets}
use Rattle.hall.specs.declared.Hall.{Hall}
use Rattle.identities.specs.declared.Names.{Names}
use Rattle.steps.specs.declared.Core.{Core}
use Rattle.desk_octets.specs.Form.{octets_of_desk, canonical}
use Rattle.desk_octets.proofs.Forth.{forth, core_written}
use Rattle.desk_octets_laws.specs.Forms.{StandsFor, EveryStringForth, OneString, CoreWritten}

pub every_string_forth : EveryStringForth
every_string_forth = forth

-- the octets that stand for a desk are that desk's
its_octets : (s : List ℕ) → Octets s → canonical s ≡ true → (c : Core) (h : Hall) (ns : Names) → StandsFor s c h ns →
    s ≡ octets_of_desk c h ns
its_octets s o e c h ns p = sym (forth s o e) ∙ rw (p.core, p.hall, p.names)

pub one_string : OneString
one_string s t o u e f c h ns p q = its_octets s o e c h ns p ∙ sym (its_octets t u f c h ns q)

pub every_core_written : CoreWritten
every_core_written = core_written
