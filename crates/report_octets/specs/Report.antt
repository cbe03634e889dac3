-- A report as 24 octets (docs/FORMS.md, "A report: 24 octets"; document 01, "The desk": "at most two messages with the set of seats they go
-- to, and four marks"), and the messages that the code reads out of them. What the octets say as a whole: crate report_octets_laws. Assumes
-- nothing.
use Rattle.std.specs.Prelude.{ℕ, ◌+◌, ◌*◌, ◌%◌, Bool, not, ◌&&◌, Option, Some, None, List, [], ◌∷◌, ◌++◌, eqb, length, get_or}
use Rattle.words.specs.Choice.{when◌then◌else◌, one}
use Rattle.octets.specs.Octets.{be16, octets16}
use Rattle.steps.specs.declared.Kind.{Kind}
use Rattle.steps.specs.declared.Kind.TheVariants as say
use Rattle.steps.specs.declared.Sending.{Sending}
use Rattle.steps.specs.declared.Given.{Given}
use Rattle.steps.specs.declared.Given.TheVariants.{NotGiven, AtOnce, OutOfLine}
use Rattle.steps.specs.declared.Marks.{Marks}
use Rattle.steps.specs.declared.Report.{Report}
use Rattle.report_octets.specs.Places.{report_size, first_place, second_place, seat_within, number_within, priority_within, zero_within}
use Rattle.report_octets.specs.declared.Particulars.{Particulars}

-- a set of seats as a number, seat 0 the lowest bit
abbrev pub mask_of : List Bool → ℕ
mask_of [] = 0
mask_of (b ∷ bs) = one b + 2 * mask_of bs

abbrev pub seat_octet : Option ℕ → ℕ
seat_octet None = 255
seat_octet (Some s) = s

abbrev pub given_octet : Given → ℕ
given_octet NotGiven = 255
given_octet (AtOnce s) = s
given_octet (OutOfLine s) = s

abbrev pub how_octet : Given → ℕ
how_octet NotGiven = 0
how_octet (AtOnce s) = 1
how_octet (OutOfLine s) = 2

-- what a message has: its kind, a seat, a number, a priority
abbrev pub with : ℕ → ℕ → ℕ → ℕ → Particulars
with k s n p = record { kind = k; seat = s; number = n; priority = p }

unfoldable pub particulars : Kind → Particulars
particulars say.Nothing = with 255 0 0 0
particulars (say.Granted p) = with 1 0 0 p
particulars (say.Taken s n) = with 2 s n 0
particulars (say.Deny n) = with 3 0 n 0
particulars (say.Idle n) = with 5 0 n 0
particulars (say.Revoke n) = with 6 0 n 0
particulars (say.Info k p) = with 9 0 k p

abbrev pub octets_with : Particulars → ℕ → List ℕ
octets_with q mask = (q.kind ∷ q.seat ∷ octets16 q.number) ++ (q.priority ∷ 0 ∷ octets16 mask)

unfoldable pub octets_of_message : Sending → List ℕ
octets_of_message m = octets_with (particulars m.kind) (mask_of m.to)

unfoldable pub marks_octets : Marks → List ℕ
marks_octets m =
    octets16 (mask_of m.struck)
    ++ (0 ∷ seat_octet m.placed ∷ seat_octet m.ended ∷ given_octet m.given ∷ how_octet m.given ∷ 0 ∷ [])

unfoldable pub octets_of_report : Report → List ℕ
octets_of_report r = marks_octets r.marks ++ octets_of_message r.first ++ octets_of_message r.second

-- WHAT THE OCTETS OF A REPORT SAY

unfoldable pub particulars_at : List ℕ → ℕ → Particulars
particulars_at r at = with (get_or r at 0) (get_or r (at + seat_within) 0) (be16 r (at + number_within)) (get_or r (at + priority_within) 0)

-- the message that has these particulars, if one has
unfoldable pub kind_of : Particulars → Kind
kind_of q =
    when eqb q.kind 1 then say.Granted q.priority else when eqb q.kind 2 then say.Taken q.seat q.number
    else when eqb q.kind 3 then say.Deny q.number else when eqb q.kind 5 then say.Idle q.number
    else when eqb q.kind 6 then say.Revoke q.number else when eqb q.kind 9 then say.Info (q.number % 256) q.priority
    else say.Nothing

unfoldable pub alike : Particulars → Particulars → Bool
alike q p = eqb q.kind p.kind && (eqb q.seat p.seat && (eqb q.number p.number && eqb q.priority p.priority))

-- it has them: what its kind has not is zero, and so is the octet behind its priority
unfoldable pub said_by : Particulars → ℕ → Option Kind
said_by q behind = when alike q (particulars (kind_of q)) && eqb behind 0 then Some (kind_of q) else None

abbrev pub said_at : List ℕ → ℕ → Option Kind
said_at r at = said_by (particulars_at r at) (get_or r (at + zero_within) 0)

-- message 0 or 1 of a report; there is no third
unfoldable pub told_in : List ℕ → ℕ → Option Kind
told_in r which =
    when not (eqb (length r) report_size) then None else when eqb which 0 then said_at r first_place
    else when eqb which 1 then said_at r second_place else Some say.Nothing
