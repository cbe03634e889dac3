-- A required field is there where its start is not 0.
use mathlib.Core.Path.{refl, ◌∙◌}
use lib.ListN.{get_or}
use Rattle.words.specs.Choice.{when◌then◌else◌}
use Rattle.message.specs.Message.{complete, said, has, fields_of, is_there, of_octet, of_word, of_part, of_cause, of_queue}
use Rattle.message.proofs.Required.{required_by}
use Rattle.reading.specs.Reading.{message_at, octet_at, word_at, part_at, cause_at, queue_at}
use Rattle.reading.proofs.Judges.{given-at}
use Rattle.reading.proofs.has_all.Goals as goal

pub returns : goal.returns
unfolding complete said has when◌then◌else◌ message_at word_at octet_at part_at cause_at queue_at
returns c = λ s.
    let a = c.args in
    let m = message_at a.kind s (λ i. get_or a.starts.now i 0) in
    c.has_required.ensures
    ∙ required_by _ (has (fields_of m s))
    (record {
      duration = given-at (λ w. is_there (of_word w)) _ _ (get_or a.starts.now 1 0) refl refl;
      cause = given-at (λ x. is_there (of_cause s x)) _ _ (get_or a.starts.now 2 0) refl refl;
      queue = given-at (λ q. is_there (of_queue q)) _ _ (get_or a.starts.now 3 0) refl refl;
      granted = given-at (λ p. is_there (of_part s p)) _ _ (get_or a.starts.now 4 0) refl refl;
      sequence = given-at (λ w. is_there (of_word w)) _ _ (get_or a.starts.now 8 0) refl refl;
      source = given-at (λ w. is_there (of_word w)) _ _ (get_or a.starts.now 10 0) refl refl;
      message_type = given-at (λ o. is_there (of_octet o)) _ _ (get_or a.starts.now 12 0) refl refl;
    })
    a.kind
