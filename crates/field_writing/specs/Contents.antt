-- The laws of what a field can hold: how many octets it has, and that its spare octets are counted into its padding. Assumes nothing.
use Prim.Native.Nat.{ℕ, ◌+◌}
use native.Mathlib.Omega.{arith}
use native.Mathlib.Nat.{add-zero}
use mathlib.Core.Bool.{true}
use mathlib.Core.List.{List, ◌++◌}
use mathlib.Core.Path.{◌≡◌, refl}
use lib.Dec.{leb}
use lib.ListN.{length, length-append}
use borrow.Author.Tests.{leb-true}
use Rattle.octets.specs.Octets.{octets16, part}
use Rattle.octets.proofs.Over.{length_part}
use Rattle.octets.proofs.Numbers.{length16}
use Rattle.message.specs.Table.{padding}
use Rattle.message.specs.declared.Part.{Part}
use Rattle.message.specs.declared.RejectCause.{RejectCause}

pub part_counts : (src : List ℕ) (p : Part) → leb (p.from + p.count) (length src) ≡ true → length (part src p.from p.count) ≡ p.count
part_counts src p h = length_part src p.from p.count (leb-true (p.from + p.count) (length src) h)

pub cause_counts : (src : List ℕ) (c : RejectCause) → leb (c.phrase.from + c.phrase.count) (length src) ≡ true →
    length (octets16 c.cause ++ part src c.phrase.from c.phrase.count) ≡ c.phrase.count + 2
cause_counts src c h = rw (length-append, length16 c.cause, part_counts src c.phrase h) (omega arith)

pub octet_spared : 1 + padding (1 + 1) ≡ padding 1
unfolding padding
octet_spared = refl

pub number_spared : 2 + padding (4 + 2) ≡ padding 4
unfolding padding
number_spared = refl

pub none_spared : (n : ℕ) → 0 + padding (n + 0) ≡ padding n
none_spared n = simp (add-zero) (omega arith)
