-- `message_octets::put_held` writes the three rows over zeros, and the head at last. Assumes nothing.
use mathlib.Core.Path.{◌≡◌}
use lib.ListN.{get_or}
use Rattle.octets.specs.Octets.{octets16, octets32}
use Rattle.message_octets.specs.Held.{which, first_octets, next_octets}
use Rattle.message_octets.specs.Laying.{message_by}
use Rattle.message_octets.proofs.Laying.{blank_room, first_most, next-most, which_by_rows, held_by_rows}
use native.Mathlib.Omega.{arith}
use Rattle.message_octets.proofs.put_held.Goals as goal

pub lay_first-has-requires-clause-blank : goal.lay_first-has-requires-clause-blank
lay_first-has-requires-clause-blank c = blank_room c.args.room.now _ c.requires.message_size_in_bounds c.put_zeros.ensures

pub lay_next-has-requires-clause-blank : goal.lay_next-has-requires-clause-blank
unfolding first_octets octets16
lay_next-has-requires-clause-blank c = (c.lay_first-has.ensures.lays c.args.kind).blank

pub lay_next-has-requires-clause-has_bound : goal.lay_next-has-requires-clause-has_bound
lay_next-has-requires-clause-has_bound c =
    let k = c.args.kind in
    omega (arith, first_most (message_by k c.args.s.now c.args.starts.now), c.lay_first-has.ensures.value k)

pub lay_parts-has-requires-clause-blank : goal.lay_parts-has-requires-clause-blank
unfolding next_octets octets16 octets32
lay_parts-has-requires-clause-blank c = (c.lay_next-has.ensures.lays c.args.kind).blank

pub lay_parts-has-requires-clause-has_bound : goal.lay_parts-has-requires-clause-has_bound
lay_parts-has-requires-clause-has_bound c =
    let k = c.args.kind in
    let m = message_by k c.args.s.now c.args.starts.now in
    omega (arith, first_most m, next-most c.lay_first-has.result m, c.lay_first-has.ensures.value k, c.lay_next-has.ensures.value k)

pub returns : goal.returns
returns c =
    let a = c.args in
    let k = a.kind in
    let m = message_by k a.s.now a.starts.now in
    let sum : c.lay_parts-has.result ≡ which m =
    rw (c.lay_parts-has.ensures.value k, c.lay_next-has.ensures.value k, c.lay_first-has.ensures.value k) (which_by_rows m) in
    held_by_rows k a.s.now (λ i. get_or a.starts.now i 0) a.room.now _ _ _ _ _ c.requires.message_size_in_bounds c.put_zeros.ensures
    (c.lay_first-has.ensures.lays k) (c.lay_next-has.ensures.lays k) (c.lay_parts-has.ensures.lays k) (rw sum at c.put_head.ensures)
