-- The wall screen's list: "refusal 13 if too short; entries past the line untouched" (document 01, "The desk"). The list is the line's
-- own, in its order, each entry a seat and its priority. Assumes nothing.
use Rattle.std.specs.Prelude.{ℕ, List, ◌++◌, leb, length, drop, replicate, Option, Some, None}
use Rattle.words.specs.Choice.{when◌then◌else◌}
use Rattle.message.specs.Answers.{Answer, refused, result}
use Rattle.line.specs.declared.Entry.{Entry}
use Rattle.line.specs.Line.{empty}

-- the room has places enough for the whole line, or nothing is shown
unfoldable pub shown_in : List Entry → ℕ → ℕ
shown_in es places = when leb (length es) places then length es else 0

-- the answer in the paper's numbers, and which it is
abbrev pub shown_answer : Option ℕ → Answer ℕ
shown_answer (Some n) = result n
shown_answer None = refused 13

unfoldable pub list_answer : List Entry → ℕ → Answer ℕ
list_answer es places = when leb (length es) places then result (length es) else refused 13

-- these entries over a room's first ones
abbrev pub over_first : List Entry → List Entry → List Entry
over_first es room = es ++ drop (length es) room

-- what the room holds in the end
unfoldable pub filled : List Entry → List Entry → List Entry
filled es room = when leb (length es) (length room) then over_first es room else room

-- the list in a room of fifteen places, as many as a line has: those who wait, with empty entries behind them
unfoldable pub listing : List Entry → List Entry
listing es = over_first es (replicate 15 empty)
