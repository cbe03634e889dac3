-- `saving::put_seats` meets its contract. Assumes nothing.
use Rattle.std.proofs.Common.{◌<◌, ◌∙◌, refl, arith}
use Rattle.saving.proofs.Walks.{put_starts, put_fits, put_on, put_ends}
use Rattle.saving.proofs.put_seats.Goals as goal

pub loop-seat-init : goal.loop-seat-init
loop-seat-init c = record { long = refl; put = put_starts c.args.hall c.args.names c.args.room.now }

pub put_taken-at-requires : goal.put_taken-at-requires
put_taken-at-requires c =
    let v = c.loop-seat in
    let l : v.seat < 16 = c.loop-seat-test.true in
    let f = put_fits c.args.hall c.args.names c.args.room.now v.room v.at v.seat l v.invariant.put in
    (l, omega (arith, f, v.invariant.long, c.requires))

pub loop-seat-preserved : goal.loop-seat-preserved
loop-seat-preserved c =
    let v = c.loop-seat in
    record {
      long = c.put_taken-at.auto.room ∙ v.invariant.long;
      put = rw (c.put_taken-at.ensures.value, c.put_taken-at.ensures.room_after)
          (put_on c.args.hall c.args.names c.args.room.now v.room v.at v.seat c.loop-seat-test.true v.invariant.put);
    }

pub returns : goal.returns
returns c =
    let v = c.loop-seat in
    put_ends c.args.hall c.args.names c.args.room.now v.room v.at v.seat (omega arith) v.invariant.put
