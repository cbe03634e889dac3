-- `report_octets::mask_of` meets its contract. Assumes nothing.
use Prim.Native.Nat.{◌+◌, ◌-◌}
use mathlib.Core.Bool.{false}
use mathlib.Core.Path.{◌≡◌}
use lib.ListN.{length, get_or, take, drop}
use lib.Seq.{get_or-take, get_or-drop}
use Rattle.report_octets.specs.Report.{mask_of}
use Rattle.report_octets.proofs.Masks.{one_byte, byte-most, mask_turn, mask_none, mask_small, low_length, high_length, two-octets}
use native.Mathlib.Omega.{arith}
use Rattle.report_octets.proofs.mask_of.Goals as goal

pub loop-i-init : goal.loop-i-init
loop-i-init c =
    let l : length c.args.set ≡ 16 = (omega arith) in (
      l,
      mask_none (take 8 c.args.set) (low_length c.args.set l),
      mask_none (drop 8 c.args.set) (high_length c.args.set l),
    )

pub loop-i-preserved : goal.loop-i-preserved
loop-i-preserved c =
    let l = c.loop-i in
    let set = c.args.set in
    let p = c.loop-i-test.true in
    let low = mask_turn (take 8 set) l.i l.low (get_or set (l.i - 1) false) p (omega (arith, low_length set l.invariant.0)) l.invariant.1
    (get_or-take 8 set (l.i - 1) false (omega arith)) in
    let high =
    mask_turn (drop 8 set) l.i l.high (get_or set (8 + (l.i - 1)) false) p (omega (arith, high_length set l.invariant.0)) l.invariant.2
    (get_or-drop 8 set (l.i - 1) false) in
    (l.invariant.0, omega (arith, low, c.from.ensures, one_byte), omega (arith, high, c.from-in-loop-i.ensures, one_byte))

pub returns : goal.returns
returns c =
    let l = c.loop-i in
    let set = c.args.set in
    let z : l.i ≡ 0 = omega arith in
    let low : l.low ≡ mask_of (take 8 set) = rw z at l.invariant.1 in
    let high : l.high ≡ mask_of (drop 8 set) = rw z at l.invariant.2 in
    rw (c.from-2.ensures, c.from-3.ensures, low, high) (two-octets set l.invariant.0)

pub overflow_mul-low : goal.overflow_mul-low
overflow_mul-low c =
    let l = c.loop-i in
    omega (arith, mask_small (take 8 c.args.set) l.i l.low c.loop-i-test.true (low_length c.args.set l.invariant.0) l.invariant.1)

pub overflow_mul-high : goal.overflow_mul-high
overflow_mul-high c =
    let l = c.loop-i in
    omega (arith, mask_small (drop 8 c.args.set) l.i l.high c.loop-i-test.true (high_length c.args.set l.invariant.0) l.invariant.2)

pub overflow_add-high : goal.overflow_add-high
overflow_add-high c =
    let l = c.loop-i in
    omega (
      arith,
      c.from-in-loop-i.ensures,
      byte-most,
      mask_small (drop 8 c.args.set) l.i l.high c.loop-i-test.true (high_length c.args.set l.invariant.0) l.invariant.2,
    )
