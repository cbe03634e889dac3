-- A required field is there where its bit is set.
use mathlib.Core.Path.{◌∙◌}
use Rattle.message.proofs.Required.{required_by}
use Rattle.message_octets.specs.Held.{is_set}
use Rattle.message_writing.proofs.Held.has_all.Goals as goal

pub returns : goal.returns
returns c =
    let a = c.args in
    c.has_required.ensures
    ∙ required_by _ (is_set a.self.now.fields)
    (record {
      duration = c.is_set.ensures;
      cause = c.is_set-2.ensures;
      queue = c.is_set-3.ensures;
      granted = c.is_set-4.ensures;
      sequence = c.is_set-5.ensures;
      source = c.is_set-6.ensures;
      message_type = c.is_set-7.ensures;
    })
    a.kind
