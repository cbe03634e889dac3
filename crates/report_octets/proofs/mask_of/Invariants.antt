-- `report_octets::mask_of` meets its contract. Assumes nothing.
use mathlib.Core.Path.{◌≡◌}
use lib.ListN.{length, take, drop}
use Rattle.report_octets.specs.Report.{mask_of}
use Rattle.report_octets.proofs.mask_of.Given as goal

abbrev pub invariant-loop-i : goal.invariant-loop-i
invariant-loop-i l =
    (length l.set ≡ 16) × (l.low ≡ mask_of (drop l.i (take 8 l.set))) × (l.high ≡ mask_of (drop l.i (drop 8 l.set)))
