-- The numbers that document 01, "The desk", gives the desk's answers; 0 is done. A packet that was not read is answered by the reader's
-- number. Assumes nothing.
use Rattle.std.specs.Prelude.{ℕ, Result, Ok, Err}
use Rattle.words.specs.Choice.{when◌then◌else◌}
use Rattle.hall.specs.declared.Settings.{Settings}
use Rattle.hall.specs.Seats.{in_range}
use Rattle.hall.specs.declared.Refusal.{Refusal}
use Rattle.hall.specs.declared.Refusal.TheVariants.{CallStopped, NoSuchSeat, NotExpected, AllSeatsTaken, IdentityLength}
use Rattle.hall.specs.declared.Refusal.TheVariants.{IdentityPresent, SsrcPresent, OutsideRange, NotRead}

-- what a desk answers: that it is done, or why not
abbrev pub DeskAnswer : Type 0
DeskAnswer = Result (Unit {0}) Refusal

abbrev pub desk_refusal_number : Refusal → ℕ
desk_refusal_number CallStopped = 21
desk_refusal_number NoSuchSeat = 22
desk_refusal_number NotExpected = 23
desk_refusal_number AllSeatsTaken = 24
desk_refusal_number IdentityLength = 25
desk_refusal_number IdentityPresent = 26
desk_refusal_number SsrcPresent = 27
desk_refusal_number OutsideRange = 28
desk_refusal_number (NotRead n) = n

abbrev pub answer_number : DeskAnswer → ℕ
answer_number (Ok u) = 0
answer_number (Err r) = desk_refusal_number r

-- 28 for settings that no desk may have
unfoldable pub settings_answer : Settings → DeskAnswer
settings_answer s = when in_range s then Ok tt else Err OutsideRange
