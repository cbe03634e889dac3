-- The fields of one length and those with a text are all fields, as the two halves are. Assumes nothing.
use native.Mathlib.Omega.{arith}
use Rattle.message_writing.proofs.Laws.{size_none}
use Rattle.message_writing.proofs.Held.size.Goals as goal

pub returns-then-self-eq0 : goal.returns-then-self-eq0
returns-then-self-eq0 c = let v = c.args.self.now in size_none v.octets.now v.fields c.if-self-eq0.true

pub returns : goal.returns
returns c = omega (arith, c.short_size.ensures.value, c.text_size.ensures.value)
