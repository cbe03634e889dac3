-- Where each thing stands in the 40 octets of a message, and how many octets there are (docs/FORMS.md, "A message: 40 octets", in that
-- page's order): numbers of 1, 2 or 4 octets, and a part as two numbers of 2, where it starts and how many octets it has. Assumes nothing.
use Rattle.std.specs.Prelude.{ℕ}

-- type, Ack bit, which fields the message has, SSRC
abbrev pub type_place : ℕ
type_place = 0

abbrev pub ack_place : ℕ
ack_place = 1

abbrev pub fields_place : ℕ
fields_place = 2

abbrev pub message_ssrc_place : ℕ
message_ssrc_place = 4

-- the fields that hold numbers: Floor Priority, Message Type, Duration, the cause of Reject Cause, Queue Info, Permission to Request,
-- Message Sequence-Number, Source, Floor Indicator, SSRC
abbrev pub priority_place : ℕ
priority_place = 8

abbrev pub message_type_place : ℕ
message_type_place = 9

abbrev pub duration_place : ℕ
duration_place = 10

abbrev pub message_cause_place : ℕ
message_cause_place = 12

abbrev pub queue_place : ℕ
queue_place = 14

abbrev pub permission_place : ℕ
permission_place = 16

abbrev pub message_sequence_place : ℕ
message_sequence_place = 18

abbrev pub source_place : ℕ
source_place = 20

abbrev pub indicator_place : ℕ
indicator_place = 22

abbrev pub ssrc_field_place : ℕ
ssrc_field_place = 24

-- the parts: the phrase of Reject Cause, Granted Party's Identity, User ID
abbrev pub phrase_place : ℕ
phrase_place = 28

abbrev pub granted_place : ℕ
granted_place = 32

abbrev pub user_place : ℕ
user_place = 36

abbrev pub message_size : ℕ
message_size = 40
