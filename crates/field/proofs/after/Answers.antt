-- The next field starts behind all that this one takes.
use Rattle.message.proofs.Paddings.{padded-most}
use native.Mathlib.Omega.{arith}
use Rattle.field.proofs.after.Goals as goal

pub overflow_add-result : goal.overflow_add-result
overflow_add-result c = omega (arith, c.padded.ensures, padded-most c.args.len)
