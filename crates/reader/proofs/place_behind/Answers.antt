-- `reader::place_behind` keeps its promise, `result ≡ behind step at`. The place behind what stands at a place, once that is known. Assumes
-- nothing.
use mathlib.Core.Path.{refl}
use Rattle.reader.proofs.place_behind.Goals as goal

pub returns-in-Skipped : goal.returns-in-Skipped
returns-in-Skipped c = rw c.in-Skipped.is refl
