-- Where a part lies in the source, in numbers. Assumes nothing.
use Prim.Native.Nat.{ℕ, ◌+◌, ◌≤◌}
use mathlib.Core.Bool.{true}
use mathlib.Core.List.{List}
use mathlib.Core.Path.{◌≡◌}
use lib.ListN.{length}
use borrow.Author.Tests.{leb-true}
use Rattle.message.specs.Message.{part_lies, phrase_lies}
use Rattle.std.specs.Prelude.{Option, Some}
use Rattle.message.specs.declared.Part.{Part}
use Rattle.message.specs.declared.RejectCause.{RejectCause}

pub part_lies_lem : (src : List ℕ) {o : Option Part} {p : Part} → o ≡ Some p → part_lies src o ≡ true → p.from + p.count ≤ length src
part_lies_lem src {o} {p} e h = leb-true (p.from + p.count) (length src) (rw e at h)

pub phrase_lies_lem : (src : List ℕ) {o : Option RejectCause} {c : RejectCause} → o ≡ Some c → phrase_lies src o ≡ true →
    c.phrase.from + c.phrase.count ≤ length src
phrase_lies_lem src {o} {c} e h = leb-true (c.phrase.from + c.phrase.count) (length src) (rw e at h)
