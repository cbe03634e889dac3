-- The seats that were passed over are written, those of the set.
use Rattle.std.proofs.Common.{rules, ◌∷◌}
use Rattle.std.specs.Fmt.{HasWritten, decimal}
use Rattle.std.proofs.Output.{has_written_append, has_written_of_eq}
use Rattle.printing.specs.Printed.{seats_before}
use Rattle.printing.proofs.Printed.{seat_printed, seat_left_out}
use Rattle.printing.proofs.SeatsDisplay.fmt.Goals.{then-is_in+in_ok-write, else-is_in}
use Rattle.printing.proofs.SeatsDisplay.fmt.Goals as goal

pub loop-seat-init : goal.loop-seat-init
unfolding seats_before
loop-seat-init g c = search rules

pub loop-seat-preserved : goal.loop-seat-preserved
loop-seat-preserved g c = λ p.
    let set = c.args.self.now.0 in
    let i = c.loop-seat.seat-counter in
    let so_far = c.loop-seat.invariant p in
    elim c.if-is_in.branch [
      | then-is_in+in_ok-write w ↦
          let wrote : HasWritten g.W.Write.write_str_gives c.loop-seat.f (32 ∷ decimal i) c.if-is_in.f = search rules in
          has_written_of_eq _ _ _ _ _ (seat_printed set i (search rules)) (has_written_append _ _ _ _ _ _ so_far wrote)
      | else-is_in w ↦ has_written_of_eq _ _ _ _ _ (seat_left_out set i (search rules)) (rw w.f-is so_far)
    ]
