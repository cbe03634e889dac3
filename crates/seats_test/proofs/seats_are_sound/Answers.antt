-- `seats_test::seats_are_sound` meets its contract. Assumes nothing.
use Rattle.std.proofs.Common.{rules}
use Rattle.seats_test.specs.Seated.{seat_fits, seats_fit}
use Rattle.seats_test.proofs.Seated.{seats_same}
use Rattle.seats_test.proofs.seats_are_sound.Goals as goal

pub returns : goal.returns
unfolding seats_fit
returns c =
    let s = c.args.s.now in
    rw (
      c.all_below-seats.ensures (seat_fits s) (λ i b h p. search rules),
      c.in_range-ranged.ensures,
      c.settings_at-settings.ensures,
    )
    (seats_same s c.requires.hall_part c.requires.names_part)
