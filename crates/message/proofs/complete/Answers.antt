-- A message tells of each required field whether it has it.
use Rattle.std.specs.Prelude.{ℕ, List, ◌≡◌, refl, Option, None, Some, is_some, option_map}
use mathlib.Core.Path.{◌∙◌}
use Rattle.words.specs.Choice.{when◌then◌else◌}
use Rattle.message.specs.Message.{complete, said, has, fields_of, is_there}
use Rattle.message.proofs.Required.{required_by}
use Rattle.message.proofs.complete.Goals as goal

-- a field is there where its value is
given : {A : Type 0} (f : A → List ℕ) (o : Option A) → is_some o ≡ is_there (option_map f o)
given f None = refl
given f (Some x) = refl

pub returns : goal.returns
unfolding complete said has when◌then◌else◌
returns c = λ src.
    let m = c.args.m in
    c.has_required.ensures
    ∙ required_by _ (has (fields_of m src))
    (record {
      duration = c.is_some.ensures ∙ given _ _;
      cause = c.is_some-2.ensures ∙ given _ _;
      queue = c.is_some-3.ensures ∙ given _ _;
      granted = c.is_some-4.ensures ∙ given _ _;
      sequence = c.is_some-5.ensures ∙ given _ _;
      source = c.is_some-6.ensures ∙ given _ _;
      message_type = c.is_some-7.ensures ∙ given _ _;
    })
    m.kind
