-- The causes of Deny and of Revoke, in the words of TS 24.380, 8.2.6.2 and 8.2.10.2; document 01, "The desk", gives their numbers.
-- Assumes nothing.
use Rattle.std.specs.Prelude.{ℕ}

-- Deny
abbrev pub another_has_permission : ℕ
another_has_permission = 1

abbrev pub only_one_participant : ℕ
only_one_participant = 3

abbrev pub receive_only : ℕ
receive_only = 5

abbrev pub queue_full : ℕ
queue_full = 7

-- Revoke
abbrev pub media_burst_too_long : ℕ
media_burst_too_long = 2

abbrev pub media_burst_preempted : ℕ
media_burst_preempted = 4
