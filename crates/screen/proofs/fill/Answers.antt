-- `screen::fill` writes the line to the room and answers how many wait, or answers refusal 13: the room at exit is the line's entries, in
-- order, over its first places, with the places past the line as they were, or the whole room as it was where it is too short. Assumes
-- nothing.
use Prim.Native.Nat.{◌≤◌}
use mathlib.Core.List.{◌++◌}
use mathlib.Core.Path.{ap, ◌∙◌}
use native.Mathlib.Omega.{arith}
use lib.ListN.{length, drop, length-take}
use Rattle.line.specs.Line.{waiting}
use Rattle.screen.proofs.Laws.{up_to, first_waiting, upto_left, shown_in_line, shown_in_room, waiting-fits}
use Rattle.screen.proofs.fill.Goals as goal

pub slice_bounds-copy_from_slice-end : goal.slice_bounds-copy_from_slice-end
slice_bounds-copy_from_slice-end c =
    omega (arith, c.shown_in-n.ensures, shown_in_room (waiting c.args.line) (length c.args.room.now))

pub shared_ref_as_front-copy_from_slice : goal.shared_ref_as_front-copy_from_slice
shared_ref_as_front-copy_from_slice c =
    let es = waiting c.args.line in
    omega (arith, c.shown_in-n.ensures, shown_in_line es (length c.args.room.now), waiting-fits c.args.line (omega arith))

pub copy_from_slice-requires : goal.copy_from_slice-requires
copy_from_slice-requires c =
    let es = waiting c.args.line in
    let n = c.shown_in-n.result in
    let r = c.args.room.now in
    omega (
      arith,
      c.shown_in-n.ensures,
      shown_in_room es (length r),
      shown_in_line es (length r),
      waiting-fits c.args.line (omega arith),
      length-take n r,
      length-take n c.args.line.entries,
    )

pub slice_bounds-copy_from_slice-end-2 : goal.slice_bounds-copy_from_slice-end-2
slice_bounds-copy_from_slice-end-2 c =
    let r = c.args.room.now in
    omega (arith, c.shown_in-n.ensures, shown_in_room (waiting c.args.line) (length r), length-take c.shown_in-n.result r)

pub returns : goal.returns
returns c =
    let l = c.args.line in
    let r = c.args.room.now in
    let n = c.shown_in-n.result in
    let fits : n ≤ length (waiting l) = omega (arith, c.shown_in-n.ensures, shown_in_line (waiting l) (length r)) in (
      c.answer.ensures,
      ap (λ es. es ++ drop n r) (c.copy_from_slice.ensures.after ∙ first_waiting l n fits) ∙ ap (up_to (waiting l) r) c.shown_in-n.ensures
          ∙ upto_left (waiting l) r,
    )
