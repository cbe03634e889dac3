-- `reading::message_at` keeps its promise, `result ≡ message_at kind s.now (λ i. get_or starts.now i 0)`. The message of a packet of this
-- type, from the starts of its fields' contents. Assumes nothing.
use Rattle.reading.specs.Reading.{message_at}
use Rattle.reading.proofs.message_at.Goals as goal

pub returns : goal.returns
unfolding message_at
returns c =
    simp (
      c.number32.ensures,
      c.octet_at.ensures,
      c.word_at.ensures,
      c.cause_at.ensures,
      c.queue_at.ensures,
      c.part_at.ensures,
      c.word_at-2.ensures,
      c.part_at-2.ensures,
      c.word_at-3.ensures,
      c.word_at-4.ensures,
      c.octet_at-2.ensures,
      c.word_at-5.ensures,
      c.number_at.ensures,
    )
