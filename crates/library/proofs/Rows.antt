-- A call that is done brings one row: what it means to the desk, and what its report says. Assumes nothing.
use mathlib.Core.Path.{◌≡◌, ap}
use mathlib.Core.List.{[], ◌∷◌}
use lib.ListN.{take}
use Rattle.words.specs.Choice.{if_yes}
use Rattle.signed.specs.Signed.{is_done}
use Rattle.report_octets.specs.Places.{report_size}
use Rattle.desk_octets.specs.Form.{hall_at}
use Rattle.floor_laws.specs.Kept.{meant, doings}
use Rattle.library.specs.Library.{report_by, rows_of, DoneIsARow}

pub done_is_a_row : DoneIsARow
done_is_a_row d x p z =
    let e : doings x ≡ meant x.act ∷ [] = if_yes (is_done x.answer) (meant x.act ∷ []) [] z in
    (_, ap (rows_of (hall_at d) (report_by x.act (take report_size x.report))) e)
