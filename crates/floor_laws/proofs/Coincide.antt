-- Any two results that a promise allows coincide, where what was lent allows one. Assumes nothing.
use mathlib.Core.Path.{sym, ap, ◌∙◌}
use Rattle.words.specs.Choice.{by_test}
use Rattle.signed.specs.Signed.{told_as}
use Rattle.desk_test.specs.Lent.{formed}
use Rattle.desk_steps.specs.Steps.{step_on}
use Rattle.floor_laws.specs.Coincide.{AskedCoincide, WrittenCoincide, SteppedCoincide, RefusedCoincide}

pub asked_coincide : AskedCoincide
asked_coincide d may n n' one p o p' o' = by_test (formed d) (λ q. one n n' (p q) (p' q)) (λ q. o q ∙ sym (o' q))

pub written_coincide : WrittenCoincide
written_coincide d room may n n' after after' one p o p' o' =
    by_test (formed d) (λ q. one n n' after after' (p q) (p' q))
    (λ q. let e = o q in let e' = o' q in (e.0 ∙ sym e'.0, e.1 ∙ sym e'.1))

pub stepped_coincide : SteppedCoincide
stepped_coincide d r may n n' d' d'' r' r'' one p o p' o' =
    by_test (formed d)
    (λ q. let m = p q in let m' = p' q in m.2 ∙ ap (step_on d r) (one m.0 m'.0 m.1 m'.1) ∙ sym m'.2)
    (λ q. o q ∙ sym (o' q))

pub refused_coincide : RefusedCoincide
refused_coincide may z z' one p p' = p.2 ∙ ap told_as (one p.0 p'.0 p.1 p'.1) ∙ sym p'.2
