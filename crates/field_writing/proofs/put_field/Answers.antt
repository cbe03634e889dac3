-- `field_writing::put_field` keeps its promise: a field that the message has is laid over zeros. Assumes nothing.
use mathlib.Core.Path.{◌≡◌, sym, ◌∙◌}
use native.Mathlib.Omega.{arith}
use Rattle.octets.proofs.Lays.{lay_none}
use Rattle.message.specs.Table.{padded}
use Rattle.message.proofs.Paddings.{padded_least}
use Rattle.field_writing.specs.Wire.{optional}
use Rattle.field_writing.proofs.Fields.{field_takes, laid_field, zeros_there}
use Rattle.field_writing.proofs.put_field.Goals as goal

pub overflow_add-end : goal.overflow_add-end
unfolding optional padded
overflow_add-end g c =
    let a = c.args in
    let x = c.in-Some.x in
    let lies = rw c.in-Some.is at c.requires.lies in
    let fits = rw c.in-Some.is at c.requires.fits in
    let t = field_takes a.id _ _ _ c.requires.spare (g.met.T.Content.counts a.src.now x lies) (g.met.T.Content.spared x) in
    let w : c.padded.result ≡ padded (g.T.Content.count x) = rw (c.padded.ensures, c.count-count.ensures) in
    omega (arith, padded_least (g.T.Content.count x))

pub overflow_sub-end : goal.overflow_sub-end
overflow_sub-end g c = omega (arith, padded_least c.count-count.result, c.padded.ensures)

pub put32-requires : goal.put32-requires
unfolding optional padded
put32-requires g c =
    let a = c.args in
    let x = c.in-Some.x in
    let lies = rw c.in-Some.is at c.requires.lies in
    let fits = rw c.in-Some.is at c.requires.fits in
    let t = field_takes a.id _ _ _ c.requires.spare (g.met.T.Content.counts a.src.now x lies) (g.met.T.Content.spared x) in
    let w : c.padded.result ≡ padded (g.T.Content.count x) = rw (c.padded.ensures, c.count-count.ensures) in
    omega (arith, padded_least (g.T.Content.count x))

pub put_pair-requires : goal.put_pair-requires
unfolding optional
put_pair-requires g c =
    let a = c.args in
    let x = c.in-Some.x in
    let lies = rw c.in-Some.is at c.requires.lies in
    let fits = rw c.in-Some.is at c.requires.fits in
    let t = field_takes a.id _ _ _ c.requires.spare (g.met.T.Content.counts a.src.now x lies) (g.met.T.Content.spared x) in
    omega (arith, c.put32.auto.room)

pub put-requires-clause-fits : goal.put-requires-clause-fits
unfolding optional
put-requires-clause-fits g c =
    let a = c.args in
    let x = c.in-Some.x in
    let lies = rw c.in-Some.is at c.requires.lies in
    let fits = rw c.in-Some.is at c.requires.fits in
    let t = field_takes a.id _ _ _ c.requires.spare (g.met.T.Content.counts a.src.now x lies) (g.met.T.Content.spared x) in
    omega (arith, c.put32.auto.room, c.put_pair.auto.room)

pub returns-in_default : goal.returns-in_default
unfolding optional
returns-in_default g c = rw c.in_default.is (lay_none c.args.room.now c.args.at)

pub returns : goal.returns
unfolding optional
returns g c =
    let a = c.args in
    let x = c.in-Some.x in
    let lies = rw c.in-Some.is at c.requires.lies in
    let fits = rw c.in-Some.is at c.requires.fits in
    let least = padded_least c.count-count.result in
    rw c.in-Some.is
    (laid_field a.id c.SPARE-spare.result c.count-count.result (g.T.Content.octets a.src.now x)
    (c.requires.spare ∙ sym c.SPARE-spare.ensures)
    (g.met.T.Content.counts a.src.now x lies ∙ sym c.count-count.ensures)
    (rw (c.SPARE-spare.ensures, c.count-count.ensures) (g.met.T.Content.spared x)) a.at _ _ fits (rw c.padded.ensures)
    (omega (arith, least, c.padded.ensures))
    (zeros_there _ _ _ _ c.put32.ensures (omega arith)) c.put_pair.ensures c.put.ensures)
