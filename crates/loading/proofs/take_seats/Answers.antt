-- `loading::take_seats` meets its contract. Assumes nothing.
use Rattle.std.proofs.Common.{◌≡◌, ◌-◌, ◌+◌, Some, None, Err, ◌∙◌, sym, arith}
use Rattle.sheet.specs.declared.Refusal.TheVariants.{SeatAtFault}
use Rattle.loading.proofs.Loads.{goes_on, loads_end, loads_gap}
use Rattle.loading.proofs.take_seats.Goals as goal

pub returns-in_err-turn : goal.returns-in_err-turn
returns-in_err-turn c =
    let v = c.loop-seat in
    let none : c.take_next.result ≡ None = grind arith in
    let fault : c.from_residual.result ≡ Err SeatAtFault = grind arith in
    rw (← c.empty_hall.ensures, ← c.no_names.ensures)
    (fault ∙ sym
    (v.invariant ∙ goes_on c.args.s.now (c.args.count - v._seat) (c.args.count - (v._seat + 1)) v.turn None (omega arith)
    (sym none ∙ c.take_next.ensures)))

pub loop-seat-preserved : goal.loop-seat-preserved
loop-seat-preserved c =
    let v = c.loop-seat in
    let more : c.take_next.result ≡ Some c.in_ok-turn.turn = grind arith in
    v.invariant ∙ goes_on c.args.s.now (c.args.count - v._seat) (c.args.count - (v._seat + 1)) v.turn (Some c.in_ok-turn.turn) (omega arith)
    (sym more ∙ c.take_next.ensures)

pub returns-then-turn-s : goal.returns-then-turn-s
returns-then-turn-s c =
    let v = c.loop-seat in
    let z : c.args.count - v._seat ≡ 0 = omega arith in
    rw (← c.empty_hall.ensures, ← c.no_names.ensures, v.invariant, z) (sym (loads_gap c.args.s.now v.turn (omega arith)))

pub returns : goal.returns
returns c =
    let v = c.loop-seat in
    let z : c.args.count - v._seat ≡ 0 = omega arith in
    rw (← c.empty_hall.ensures, ← c.no_names.ensures, v.invariant, z, loads_end c.args.s.now v.turn (omega arith), c.fresh_core.ensures)
