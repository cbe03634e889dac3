-- The places of a report in octets: the two tables of docs/FORMS.md, "A report", their first columns, each place by a name. Code has the
-- same names (src/lib.rt). Assumes nothing.
use Rattle.std.specs.Prelude.{ℕ}

-- the whole report
abbrev pub report_size : ℕ
report_size = 24

-- the set of seats struck off, 2 octets
abbrev pub struck_place : ℕ
struck_place = 0

-- a zero
abbrev pub struck_zero : ℕ
struck_zero = 2

-- the seat placed in line
abbrev pub placed_place : ℕ
placed_place = 3

-- the seat whose floor ended
abbrev pub ended_place : ℕ
ended_place = 4

-- the seat given the floor
abbrev pub given_place : ℕ
given_place = 5

-- how it was given
abbrev pub how_place : ℕ
how_place = 6

-- a zero
abbrev pub how_zero : ℕ
how_zero = 7

-- the first message
abbrev pub first_place : ℕ
first_place = 8

-- the second message
abbrev pub second_place : ℕ
second_place = 16

-- A MESSAGE OF A REPORT, places within it

-- the whole message; its kind stands at its start
abbrev pub sent_size : ℕ
sent_size = 8

-- the seat
abbrev pub seat_within : ℕ
seat_within = 1

-- the number, 2 octets
abbrev pub number_within : ℕ
number_within = 2

-- the priority
abbrev pub priority_within : ℕ
priority_within = 4

-- a zero
abbrev pub zero_within : ℕ
zero_within = 5

-- the set of seats it goes to, 2 octets
abbrev pub mask_within : ℕ
mask_within = 6
