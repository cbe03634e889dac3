-- How the code goes through a sheet to load it, seat by seat. What is loaded stands in Loading. Assumes nothing.
use Rattle.std.specs.Prelude.{ℕ, List, Option, None}
use Rattle.std.specs.Option.{option_map}
use Rattle.words.specs.Choice.{when◌then◌else◌}
use Rattle.joining.specs.Join.{join}
use Rattle.loading.specs.declared.Turn.{Turn}
use Rattle.loading.specs.Loading.{laid_out, after_seat, read_seat}

-- one seat more, if it is laid out and takes one of the hall's
unfoldable pub turn_at : List ℕ → Turn → Option Turn
turn_at s t =
    when laid_out s t.next then
    (let j = join t.hall t.names (read_seat s t.next).identity (read_seat s t.next).who in
    option_map (λ (seat : ℕ). record { next = after_seat s t.next; hall = j.hall; names = j.names }) j.seat)
    else None
