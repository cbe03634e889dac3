-- Saving (document 01, "The sheet", and 13; document 02, #101, 48): its answer, and the room once it has answered. No phase is asked.
-- Assumes nothing.
use Rattle.std.specs.Prelude.{ℕ, ◌≡◌, Bool, not, Result, Ok, Err, is_ok, List, ltb, eqb, length, take}
use Rattle.std.specs.Result.{result_unwrap_or}
use Rattle.words.specs.Choice.{when◌then◌else◌}
use Rattle.octets.specs.Octets.{over}
use Rattle.hall.specs.declared.Hall.{Hall}
use Rattle.identities.specs.declared.Names.{Names}
use Rattle.sheet.specs.Layout.{sheet_of}
use Rattle.saving.specs.declared.Refusal.{Refusal}
use Rattle.saving.specs.declared.Refusal.TheVariants.{CannotHold, NoRoom}

-- the paper's number of each refusal
abbrev pub saving_refusal_number : Refusal → ℕ
saving_refusal_number CannotHold = 48
saving_refusal_number NoRoom = 13

-- 48: "on saving at another level, before 13, until a sheet can hold it"
abbrev pub cannot_hold : Hall → Bool
cannot_hold h = not (eqb h.settings.normal 0)

-- 13: the lent room is shorter than the whole sheet
abbrev pub too_short : Hall → Names → List ℕ → Bool
too_short h ns room = ltb (length room) (length (sheet_of h ns))

-- how many octets are written, or why none
unfoldable pub saving : Hall → Names → List ℕ → Result ℕ Refusal
saving h ns room =
    when cannot_hold h then Err CannotHold
    else when too_short h ns room then Err NoRoom
    else Ok (length (sheet_of h ns))

-- "A refusal .. writes nothing; a result leaves the room past its end untouched."
unfoldable pub room_after : Hall → Names → List ℕ → List ℕ
room_after h ns room = when is_ok (saving h ns room) then over room 0 (sheet_of h ns) else room

-- what was written: the first octets of the room, as many as the answer says
unfoldable pub written_by : Hall → Names → List ℕ → List ℕ
written_by h ns room = take (result_unwrap_or (saving h ns room) 0) (room_after h ns room)

-- what `saving::save` promises of its answer r
abbrev pub Saves : Hall → Names → List ℕ → Result ℕ Refusal → Type 0
Saves h ns room r = r ≡ saving h ns room
