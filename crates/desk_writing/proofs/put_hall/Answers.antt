-- `desk_writing::put_hall` meets its contract: piece behind piece. Assumes nothing.
use Rattle.std.proofs.Common.{false, get_or, rules}
use Prim.Native.Nat.{◌≤◌}
use Rattle.words.specs.Choice.{one as flag}
use Rattle.hall.specs.Seats.{no_flags}
use mathlib.Core.Path.{refl, ap, ◌∙◌}
use native.Mathlib.Omega.{arith}
use lib.ListN.{length}
use Rattle.octets.specs.Octets.{over, octets16, octets32}
use Rattle.seat_octets.specs.Layout.{settings_octets, flags_octet}
use Rattle.desk_octets.specs.Places.{taken_column, ssrcs_column, highest_column, flags_column, flags_zeros, settings_start, settings_end}
use Rattle.desk_octets.specs.Columns.{column, rows}
use Rattle.desk_octets.specs.Form.{bool_octets, word_column, octet_column, seat_flags_octets}
use Rattle.desk_octets.proofs.Turns.{next_piece}
use Rattle.desk_octets.proofs.Pieces.{hall_whole, part-column}
use Rattle.desk_writing.proofs.put_hall.Goals as goal

pub returns : goal.returns
unfolding bool_octets word_column octet_column seat_flags_octets settings_octets column rows octets16 octets32
returns c =
    let a =
    c.args in
    let r = a.room.now in
    let h : taken_column ≤ length r =
    omega (
      arith,
      c.requires,
    ) in
    let one =
    next_piece r _ _ taken_column ssrcs_column _ _
    (c.put_column.ensures (λ i. flag (get_or a.hall.present i false)) (λ i x b p. search rules))
    c.put_words.ensures refl h in
    let two =
    next_piece r _ _ taken_column highest_column _ _ one
    (c.put_part.ensures ∙ ap (over _ highest_column) (part-column a.hall.highest 0 16 (omega arith))) refl h in
    let three =
    next_piece r _ _ taken_column flags_column _ _ two
    (c.put_column-2.ensures (λ i. flags_octet (get_or a.hall.flags i no_flags)) (λ i x b p. search rules)) refl h in
    let four =
    next_piece r _ _ taken_column flags_zeros _ _ three
    c.put_zeros.ensures refl h in
    let five =
    next_piece r _ _ taken_column settings_start _ _ four c.put_settings.ensures refl
    h in
    next_piece r _ _ taken_column settings_end _ _ five c.put_zeros-2.ensures refl h
    ∙ ap (over r taken_column) (hall_whole a.hall)
