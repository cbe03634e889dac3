-- `writing::put_front` lays the fields 0 to 5, in ascending order; room is left behind each field for those that follow. Assumes nothing.
use Rattle.field_writing.proofs.Bodies.{field_fits, field-rest, lay_field, lay_end}
use Rattle.writing.proofs.put_front.Goals as goal

pub put_field-at-requires-clause-fits : goal.put_field-at-requires-clause-fits
put_field-at-requires-clause-fits c =
    field_fits _ _ _ c.args.room.now _ c.requires.src_in_bounds

pub put_field-at-requires-2-clause-fits : goal.put_field-at-requires-2-clause-fits
put_field-at-requires-2-clause-fits c =
    let fits_1 = field-rest _ _ _ _ _ c.requires.src_in_bounds c.put_field-at.ensures in
    field_fits _ _ _ c.put_field-at.new.room _ fits_1

pub put_field-at-requires-3-clause-fits : goal.put_field-at-requires-3-clause-fits
put_field-at-requires-3-clause-fits c =
    let fits_1 = field-rest _ _ _ _ _ c.requires.src_in_bounds c.put_field-at.ensures in
    let fits_2 = field-rest _ _ _ _ _ fits_1 c.put_field-at-2.ensures in
    field_fits _ _ _ c.put_field-at-2.new.room _ fits_2

pub put_field-at-requires-4-clause-fits : goal.put_field-at-requires-4-clause-fits
put_field-at-requires-4-clause-fits c =
    let fits_1 = field-rest _ _ _ _ _ c.requires.src_in_bounds c.put_field-at.ensures in
    let fits_2 = field-rest _ _ _ _ _ fits_1 c.put_field-at-2.ensures in
    let fits_3 = field-rest _ _ _ _ _ fits_2 c.put_field-at-3.ensures in
    field_fits _ _ _ c.put_field-at-3.new.room _ fits_3

pub put_field-at-requires-5-clause-fits : goal.put_field-at-requires-5-clause-fits
put_field-at-requires-5-clause-fits c =
    let fits_1 = field-rest _ _ _ _ _ c.requires.src_in_bounds c.put_field-at.ensures in
    let fits_2 = field-rest _ _ _ _ _ fits_1 c.put_field-at-2.ensures in
    let fits_3 = field-rest _ _ _ _ _ fits_2 c.put_field-at-3.ensures in
    let fits_4 = field-rest _ _ _ _ _ fits_3 c.put_field-at-4.ensures in
    field_fits _ _ _ c.put_field-at-4.new.room _ fits_4

pub put_field-requires-clause-fits : goal.put_field-requires-clause-fits
put_field-requires-clause-fits c =
    let fits_1 = field-rest _ _ _ _ _ c.requires.src_in_bounds c.put_field-at.ensures in
    let fits_2 = field-rest _ _ _ _ _ fits_1 c.put_field-at-2.ensures in
    let fits_3 = field-rest _ _ _ _ _ fits_2 c.put_field-at-3.ensures in
    let fits_4 = field-rest _ _ _ _ _ fits_3 c.put_field-at-4.ensures in
    let fits_5 = field-rest _ _ _ _ _ fits_4 c.put_field-at-5.ensures in
    field_fits _ _ _ c.put_field-at-5.new.room _ fits_5

pub returns : goal.returns
returns c =
    let fits_1 = field-rest _ _ _ _ _ c.requires.src_in_bounds c.put_field-at.ensures in
    let fits_2 = field-rest _ _ _ _ _ fits_1 c.put_field-at-2.ensures in
    let fits_3 = field-rest _ _ _ _ _ fits_2 c.put_field-at-3.ensures in
    let fits_4 = field-rest _ _ _ _ _ fits_3 c.put_field-at-4.ensures in
    let fits_5 = field-rest _ _ _ _ _ fits_4 c.put_field-at-5.ensures in
    lay_field _ _ _ _ _ c.requires.src_in_bounds c.put_field-at.ensures
    (lay_field _ _ _ _ _ fits_1 c.put_field-at-2.ensures
    (lay_field _ _ _ _ _ fits_2 c.put_field-at-3.ensures
    (lay_field _ _ _ _ _ fits_3 c.put_field-at-4.ensures
    (lay_field _ _ _ _ _ fits_4 c.put_field-at-5.ensures
    (lay_field _ _ _ _ _ fits_5 c.put_field.ensures
    (lay_end _ _))))))
