-- `signed::found` keeps its promise, `result ≡ signed (Answer.result n)`. Assumes nothing.
use Rattle.signed.proofs.Signed.{as_it_is}
use Rattle.signed.proofs.found.Goals as goal

pub returns : goal.returns
returns c = as_it_is _ c.requires
