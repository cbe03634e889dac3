-- `loading::take_next` meets its contract: a seat that is laid out ends before the settings. Assumes nothing.
use Rattle.std.proofs.Common.{◌∙◌, sym, arith}
use Rattle.loading.proofs.Loads.{laid_fits}
use Rattle.loading.proofs.take_next.Goals as goal

pub overflow_add-from : goal.overflow_add-from
overflow_add-from c =
    omega (arith, laid_fits c.args.s.now c.args.turn.next (sym c.laid_out.ensures ∙ c.if-not-laid_out.false))

pub overflow_add-next : goal.overflow_add-next
overflow_add-next c =
    omega (arith, laid_fits c.args.s.now c.args.turn.next (sym c.laid_out.ensures ∙ c.if-not-laid_out.false))

pub bounds-s-at : goal.bounds-s-at
bounds-s-at c =
    omega (arith, laid_fits c.args.s.now c.args.turn.next (sym c.laid_out.ensures ∙ c.if-not-laid_out.false))
