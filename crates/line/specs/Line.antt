-- The line of document 01, "The desk": seats with priorities, highest first, earlier first among equals. The code keeps it as an array of
-- fifteen places and a length; here it is a list of entries, its head first. Assumes nothing.
use Rattle.std.specs.Prelude.{ℕ, suc, ltb, leb, eqb, Bool, true, false, not, ◌&&◌, List, [], ◌∷◌, ◌++◌, length, take, drop, get_or, set}
use Rattle.std.specs.Prelude.{replicate}
use Rattle.words.specs.Table.{padded}
use Rattle.words.specs.Choice.{when◌then◌else◌}
use Rattle.line.specs.declared.Entry.{Entry}
use Rattle.line.specs.declared.Line.{Line}

-- a seat in line, and the priority that it waits at
abbrev pub entry_of : ℕ → ℕ → Entry
entry_of s p = record { seat = s; priority = p }

-- who waits, in order
unfoldable pub waiting : Line → List Entry
waiting l = take l.len l.entries

-- the line that holds these: the places behind them are empty, and there are fifteen places
abbrev pub empty : Entry
empty = entry_of 0 0

unfoldable pub line_of : List Entry → Line
line_of es = record { entries = padded empty 15 es; len = length (take 15 es) }

-- how many at the front pass the test
abbrev pub leading : (Entry → Bool) → List Entry → ℕ
leading test [] = 0
leading test (e ∷ es) = when test e then suc (leading test es) else 0

-- how many stand before the seat: the head has 0 before it, and a seat that is not in line has everybody
abbrev pub is_other : ℕ → Entry → Bool
is_other s e = not (eqb e.seat s)

unfoldable pub before : ℕ → List Entry → ℕ
before s es = leading (is_other s) es

-- the priority at which a seat waits
unfoldable pub priority_of : ℕ → List Entry → ℕ
priority_of s es = (get_or es (before s es) empty).priority

abbrev pub is_in : ℕ → List Entry → Bool
is_in s es = ltb (before s es) (length es)

-- a new entry goes behind all of at least its priority
abbrev pub at_least : ℕ → Entry → Bool
at_least p e = leb p e.priority

unfoldable pub ahead : ℕ → List Entry → ℕ
ahead p es = leading (at_least p) es

unfoldable pub enter : Entry → List Entry → List Entry
enter e es = take (ahead e.priority es) es ++ e ∷ drop (ahead e.priority es) es

-- is there one in line who is not this seat and has at least this priority
abbrev pub anyone : (Entry → Bool) → List Entry → Bool
anyone test [] = false
anyone test (e ∷ es) = when test e then true else anyone test es

abbrev pub other_at_least : ℕ → ℕ → Entry → Bool
other_at_least s p e = not (eqb e.seat s) && leb p e.priority

unfoldable pub another_at_least : ℕ → ℕ → List Entry → Bool
another_at_least s p es = anyone (other_at_least s p) es

-- the line once the seats of a set are struck off
unfoldable pub without : List Bool → List Entry → List Entry
without seats [] = []
without seats (e ∷ es) = when get_or seats e.seat false then without seats es else e ∷ without seats es

-- the seats in line, as a set
abbrev pub no_seats : List Bool
no_seats = replicate 16 false

abbrev pub added : List Bool → List Entry → List Bool
added seats [] = seats
added seats (e ∷ es) = added (set seats e.seat true) es

unfoldable pub seat_set : List Entry → List Bool
seat_set es = added no_seats es
