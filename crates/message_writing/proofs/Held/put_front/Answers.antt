-- `message_writing::Held::put_front` lays the fields 0 to 5, in ascending order; room is left behind each field for those that follow.
-- Assumes nothing.
use Rattle.message_octets.specs.Held.{message_with}
use Rattle.message_writing.specs.Writes.{message_in}
use Rattle.field_writing.proofs.Bodies.{field_fits, field-rest, lay_field, lay_end}
use Rattle.message_writing.proofs.Held.put_front.Goals as goal

pub put_field-at-requires-clause-fits : goal.put_field-at-requires-clause-fits
unfolding message_in message_with
put_field-at-requires-clause-fits c =
    rw c.field-priority.ensures (field_fits _ _ _ c.args.room.now _ c.requires.src_in_bounds)

pub put_field-at-requires-2-clause-fits : goal.put_field-at-requires-2-clause-fits
unfolding message_in message_with
put_field-at-requires-2-clause-fits c =
    let laid_1 = rw c.field-priority.ensures at c.put_field-at.ensures in
    let fits_1 = field-rest _ _ _ _ _ c.requires.src_in_bounds laid_1 in
    rw c.field-duration.ensures (field_fits _ _ _ c.put_field-at.new.room _ fits_1)

pub put_field-at-requires-3-clause-fits : goal.put_field-at-requires-3-clause-fits
unfolding message_in message_with
put_field-at-requires-3-clause-fits c =
    let laid_1 = rw c.field-priority.ensures at c.put_field-at.ensures in
    let fits_1 = field-rest _ _ _ _ _ c.requires.src_in_bounds laid_1 in
    let laid_2 = rw c.field-duration.ensures at c.put_field-at-2.ensures in
    let fits_2 = field-rest _ _ _ _ _ fits_1 laid_2 in
    rw c.cause-cause.ensures (field_fits _ _ _ c.put_field-at-2.new.room _ fits_2)

pub put_field-at-requires-4-clause-fits : goal.put_field-at-requires-4-clause-fits
unfolding message_in message_with
put_field-at-requires-4-clause-fits c =
    let laid_1 = rw c.field-priority.ensures at c.put_field-at.ensures in
    let fits_1 = field-rest _ _ _ _ _ c.requires.src_in_bounds laid_1 in
    let laid_2 = rw c.field-duration.ensures at c.put_field-at-2.ensures in
    let fits_2 = field-rest _ _ _ _ _ fits_1 laid_2 in
    let laid_3 = rw c.cause-cause.ensures at c.put_field-at-3.ensures in
    let fits_3 = field-rest _ _ _ _ _ fits_2 laid_3 in
    rw c.field-queue.ensures (field_fits _ _ _ c.put_field-at-3.new.room _ fits_3)

pub put_field-at-requires-5-clause-fits : goal.put_field-at-requires-5-clause-fits
unfolding message_in message_with
put_field-at-requires-5-clause-fits c =
    let laid_1 = rw c.field-priority.ensures at c.put_field-at.ensures in
    let fits_1 = field-rest _ _ _ _ _ c.requires.src_in_bounds laid_1 in
    let laid_2 = rw c.field-duration.ensures at c.put_field-at-2.ensures in
    let fits_2 = field-rest _ _ _ _ _ fits_1 laid_2 in
    let laid_3 = rw c.cause-cause.ensures at c.put_field-at-3.ensures in
    let fits_3 = field-rest _ _ _ _ _ fits_2 laid_3 in
    let laid_4 = rw c.field-queue.ensures at c.put_field-at-4.ensures in
    let fits_4 = field-rest _ _ _ _ _ fits_3 laid_4 in
    rw c.field-granted.ensures (field_fits _ _ _ c.put_field-at-4.new.room _ fits_4)

pub put_field-requires-clause-fits : goal.put_field-requires-clause-fits
unfolding message_in message_with
put_field-requires-clause-fits c =
    let laid_1 = rw c.field-priority.ensures at c.put_field-at.ensures in
    let fits_1 = field-rest _ _ _ _ _ c.requires.src_in_bounds laid_1 in
    let laid_2 = rw c.field-duration.ensures at c.put_field-at-2.ensures in
    let fits_2 = field-rest _ _ _ _ _ fits_1 laid_2 in
    let laid_3 = rw c.cause-cause.ensures at c.put_field-at-3.ensures in
    let fits_3 = field-rest _ _ _ _ _ fits_2 laid_3 in
    let laid_4 = rw c.field-queue.ensures at c.put_field-at-4.ensures in
    let fits_4 = field-rest _ _ _ _ _ fits_3 laid_4 in
    let laid_5 = rw c.field-granted.ensures at c.put_field-at-5.ensures in
    let fits_5 = field-rest _ _ _ _ _ fits_4 laid_5 in
    rw c.field-permission.ensures (field_fits _ _ _ c.put_field-at-5.new.room _ fits_5)

pub returns : goal.returns
unfolding message_in message_with
returns c =
    let laid_1 = rw c.field-priority.ensures at c.put_field-at.ensures in
    let fits_1 = field-rest _ _ _ _ _ c.requires.src_in_bounds laid_1 in
    let laid_2 = rw c.field-duration.ensures at c.put_field-at-2.ensures in
    let fits_2 = field-rest _ _ _ _ _ fits_1 laid_2 in
    let laid_3 = rw c.cause-cause.ensures at c.put_field-at-3.ensures in
    let fits_3 = field-rest _ _ _ _ _ fits_2 laid_3 in
    let laid_4 = rw c.field-queue.ensures at c.put_field-at-4.ensures in
    let fits_4 = field-rest _ _ _ _ _ fits_3 laid_4 in
    let laid_5 = rw c.field-granted.ensures at c.put_field-at-5.ensures in
    let fits_5 = field-rest _ _ _ _ _ fits_4 laid_5 in
    let laid_6 = rw c.field-permission.ensures at c.put_field.ensures in
    lay_field _ _ _ _ _ c.requires.src_in_bounds laid_1
    (lay_field _ _ _ _ _ fits_1 laid_2
    (lay_field _ _ _ _ _ fits_2 laid_3
    (lay_field _ _ _ _ _ fits_3 laid_4
    (lay_field _ _ _ _ _ fits_4 laid_5
    (lay_field _ _ _ _ _ fits_5 laid_6
    (lay_end _ _))))))
