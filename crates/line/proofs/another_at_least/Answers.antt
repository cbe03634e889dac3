-- `line::another_at_least` meets its contract. Assumes nothing.
use mathlib.Core.Path.{ap, ◌∙◌}
use borrow.Author.Rules.{rules}
use borrow.Author.Tests.{tests}
use Rattle.std.proofs.lemmas.Iterator.{YieldsList-from_slice}
use Rattle.std.proofs.lemmas.Iterator.Search.{any_from_yields_List}
use Rattle.line.specs.Line.{other_at_least, another_at_least, anyone}
use Rattle.line.proofs.Laws.{anyone_is}
use Rattle.line.proofs.another_at_least.Goals as goal

pub returns : goal.returns
unfolding another_at_least
returns c =
    let test = other_at_least c.args.seat c.args.priority in
    any_from_yields_List test _ _ _ c.any.ensures.ran (YieldsList-from_slice _ c.iter.ensures.rest) (λ x b q k. search (rules, tests))
    ∙ anyone_is test _ ∙ ap (anyone test) c.waiting.ensures.0
