-- `saving::extent_of` meets its contract. Assumes nothing.
use Rattle.std.proofs.Common.{◌<◌, ◌≤◌, length, ap, arith}
use lib.ListN.{length-append}
use Rattle.saving.proofs.Walks.{octets_on, count_on, no_octets, rest_none}
use Rattle.saving.proofs.extent_of.Goals as goal

pub loop-seat-preserved : goal.loop-seat-preserved
loop-seat-preserved c =
    let h = c.args.hall in
    let ns = c.args.names in
    let v = c.loop-seat in
    let l : v.seat < 16 = c.loop-seat-test.true in
    let o = octets_on h ns v.seat l in
    let n = count_on h ns v.seat l in
    record {
      far = omega arith;
      few = grind arith;
      octets = grind (arith, length-append);
      count = grind arith;
    }

pub returns : goal.returns
returns c =
    let h = c.args.hall in
    let ns = c.args.names in
    let v = c.loop-seat in
    let e : 16 ≤ v.seat = omega arith in
    record {
      octets = omega (arith, v.invariant.octets, ap length (no_octets h ns v.seat e));
      few = omega arith;
      count = omega (arith, v.invariant.count, ap length (rest_none h ns v.seat e));
    }
