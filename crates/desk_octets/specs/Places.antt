-- The places of the desk in lent octets: docs/FORMS.md's table, its first column, each place by a name; a number of several octets is named
-- by its first. Code has the same names (src/lib.rt). Assumes nothing.
use Rattle.std.specs.Prelude.{ℕ, ◌+◌}
use Rattle.seat_octets.specs.Layout.{settings_size, limit_within, c7_within, c20_within}

-- the whole desk
abbrev pub desk_size : ℕ
desk_size = 1200

-- the phase; the floor, the counters and the line begin here
abbrev pub phase_place : ℕ
phase_place = 4

-- which timers run
abbrev pub timers_place : ℕ
timers_place = 5

-- the holder's seat
abbrev pub holder_place : ℕ
holder_place = 6

-- the priority that it was given the floor at
abbrev pub held_at_place : ℕ
held_at_place = 7

-- the cause in Revoking, 2 octets
abbrev pub cause_place : ℕ
cause_place = 8

-- the sequence number, 2 octets
abbrev pub sequence_place : ℕ
sequence_place = 10

-- C7
abbrev pub c7_place : ℕ
c7_place = 12

-- C20
abbrev pub c20_place : ℕ
c20_place = 13

-- how many wait in line
abbrev pub count_place : ℕ
count_place = 14

-- a zero
abbrev pub count_zero : ℕ
count_zero = 15

-- the fifteen seats that wait, the head first
abbrev pub waiting_column : ℕ
waiting_column = 16

-- a zero
abbrev pub waiting_zero : ℕ
waiting_zero = 31

-- their fifteen priorities
abbrev pub priorities_column : ℕ
priorities_column = 32

-- a zero
abbrev pub priorities_zero : ℕ
priorities_zero = 47

-- for each seat whether it is taken; the seats begin here
abbrev pub taken_column : ℕ
taken_column = 48

-- for each seat its SSRC, 4 octets
abbrev pub ssrcs_column : ℕ
ssrcs_column = 64

-- for each seat its highest priority
abbrev pub highest_column : ℕ
highest_column = 128

-- for each seat its flags, an octet as the sheet has it
abbrev pub flags_column : ℕ
flags_column = 144

-- sixteen zeros
abbrev pub flags_zeros : ℕ
flags_zeros = 160

-- the settings, twelve octets as the sheet has them
abbrev pub settings_start : ℕ
settings_start = 176

-- the line limit among them
abbrev pub limit_place : ℕ
limit_place = settings_start + limit_within

-- the C7 limit among them
abbrev pub c7_limit_place : ℕ
c7_limit_place = settings_start + c7_within

-- the C20 limit among them
abbrev pub c20_limit_place : ℕ
c20_limit_place = settings_start + c20_within

-- four zeros behind them
abbrev pub settings_end : ℕ
settings_end = settings_start + settings_size

-- for each seat the length of its identity; the identities begin here
abbrev pub lengths_column : ℕ
lengths_column = 192

-- for each seat 62 octets of its identity
abbrev pub identities_column : ℕ
identities_column = 208
