-- Where the part lies in the packet, it is those octets of it; else it is empty.
use Prim.Native.Nat.{ℕ, ◌+◌, ◌<◌}
use native.Mathlib.Nat.{add-sub_cancel_left}
use native.Mathlib.Omega.{arith}
use mathlib.Core.List.{List, []}
use mathlib.Core.Path.{◌≡◌, ap, refl}
use lib.ListN.{length, take, drop}
use borrow.Author.Tests.{le-leb, lt-leb}
use Rattle.std.specs.Prelude.{Option, Some}
use Rattle.words.specs.Choice.{when◌then◌else◌}
use Rattle.octets.specs.Octets.{part}
use Rattle.message.specs.declared.Part.{Part}
use Rattle.reading.specs.Parts.{part_in, start_in}
use Rattle.reading.proofs.part_in.Goals.{in_default-via-in-Some+then-part-s+else-part-s-2, in_default-via-in-Some+else-part-s}
use Rattle.reading.proofs.part_in.Goals.{in_default-via-in_default}
use Rattle.reading.proofs.part_in.Goals as goal

pub returns-in-Some-clause-value : goal.returns-in-Some-clause-value
unfolding part when◌then◌else◌
returns-in-Some-clause-value c =
    let p = c.in-Some.part in
    rw (c.in-Some.is, le-leb (p.from + p.count) (length c.args.s.now) (omega (arith, c.if-part-s.true, c.if-part-s-2.true)))
    (ap (λ (k : ℕ). take k (drop p.from c.args.s.now)) (add-sub_cancel_left p.from p.count))

pub returns-in-Some-clause-place : goal.returns-in-Some-clause-place
unfolding when◌then◌else◌
returns-in-Some-clause-place c =
    let p = c.in-Some.part in
    rw (c.in-Some.is, le-leb (p.from + p.count) (length c.args.s.now) (omega (arith, c.if-part-s.true, c.if-part-s-2.true))) refl

-- a part of which the packet has fewer octets
outside : (s : List ℕ) (o : Option Part) (p : Part) → o ≡ Some p → length s < p.from + p.count → (part_in s o ≡ []) × (start_in s o ≡ 0)
unfolding when◌then◌else◌
outside s o p e h = rw (e, lt-leb (p.from + p.count) (length s) h) (refl, refl)

pub returns-in_default-clause-value : goal.returns-in_default-clause-value
returns-in_default-clause-value c =
    elim c.in_default.branch [
      | in_default-via-in-Some+then-part-s+else-part-s-2 w ↦ rw
          (outside c.args.s.now c.args.p w.in-Some.part w.in-Some.is (omega (arith, w.if-part-s.true, w.if-part-s-2.false))).0
      | in_default-via-in-Some+else-part-s w ↦ rw
          (outside c.args.s.now c.args.p w.in-Some.part w.in-Some.is (omega (arith, w.if-part-s.false))).0
      | in_default-via-in_default w ↦ rw w.in_default.is
    ]

pub returns-in_default-clause-place : goal.returns-in_default-clause-place
returns-in_default-clause-place c =
    elim c.in_default.branch [
      | in_default-via-in-Some+then-part-s+else-part-s-2 w ↦ rw
          (outside c.args.s.now c.args.p w.in-Some.part w.in-Some.is (omega (arith, w.if-part-s.true, w.if-part-s-2.false))).1
      | in_default-via-in-Some+else-part-s w ↦ rw
          (outside c.args.s.now c.args.p w.in-Some.part w.in-Some.is (omega (arith, w.if-part-s.false))).1
      | in_default-via-in_default w ↦ rw w.in_default.is
    ]
