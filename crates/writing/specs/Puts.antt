-- The two halves of a message's fields, as the code sums and lays them; document 01 needs none of it. Assumes nothing.
use Rattle.std.specs.Prelude.{ℕ, ◌+◌, List, take, drop}
use Rattle.message.specs.declared.Message.{Message}
use Rattle.message.specs.Message.{Field, fields_of}
use Rattle.field_writing.specs.Puts.{octet_size, word_size, queue_size, number_size, part_size, cause_size}

-- the fields 0 to 5, and 6 to 14: all of a message's, in two halves
abbrev pub front_fields : Message → List ℕ → List Field
front_fields m src = take 6 (fields_of m src)

abbrev pub rest_fields : Message → List ℕ → List Field
rest_fields m src = drop 6 (fields_of m src)

-- the sizes of the two halves
abbrev pub front_size : Message → ℕ
front_size m =
    octet_size m.priority + word_size m.duration + cause_size m.cause + queue_size m.queue + part_size m.granted
    + word_size m.permission

abbrev pub rest_size : Message → ℕ
rest_size m =
    part_size m.user + word_size m.sequence + word_size m.source + octet_size m.message_type + word_size m.indicator
    + number_size m.ssrc_field
