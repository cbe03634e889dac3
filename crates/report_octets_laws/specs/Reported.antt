-- A report and its 24 octets (docs/FORMS.md, "A report: 24 octets"): what octets say, whole; which octets are a report's; and which reports
-- have octets, the rules' or not: all of the desk's shape. Then the laws, both ways, each proved in proofs/Reported. Assumes nothing.
use Rattle.std.specs.Prelude.{ℕ, zero, suc, ◌+◌, ◌/◌, ◌%◌, ◌<◌, Bool, true, ◌&&◌, ◌||◌, List, [], ◌∷◌, ◌≡◌, eqb, leb, ltb, length, get_or}
use Rattle.std.specs.Prelude.{Option, Some, None}
use Rattle.words.specs.Choice.{when◌then◌else◌}
use Rattle.octets.specs.Octets.{Octets, be16}
use Rattle.steps.specs.declared.Kind.{Kind}
use Rattle.steps.specs.declared.Kind.TheVariants as say
use Rattle.steps.specs.declared.Sending.{Sending}
use Rattle.steps.specs.declared.Given.{Given}
use Rattle.steps.specs.declared.Given.TheVariants.{NotGiven, AtOnce, OutOfLine}
use Rattle.steps.specs.declared.Marks.{Marks}
use Rattle.steps.specs.declared.Report.{Report}
use Rattle.report_octets.specs.Places.{report_size, struck_place, struck_zero, placed_place, ended_place, given_place, how_place, how_zero}
use Rattle.report_octets.specs.Places.{first_place, second_place, zero_within, mask_within}
use Rattle.report_octets.specs.declared.Particulars.{Particulars}
use Rattle.report_octets.specs.Report.{octets_of_report, particulars, particulars_at, kind_of, alike, told_in}

-- WHAT OCTETS SAY

-- so many seats from a number, seat 0 the lowest bit
abbrev pub seats_in : ℕ → ℕ → List Bool
seats_in zero mask = []
seats_in (suc n) mask = eqb (mask % 2) 1 ∷ seats_in n (mask / 2)

unfoldable pub set_of : ℕ → List Bool
set_of mask = seats_in 16 mask

unfoldable pub mark_of : ℕ → Option ℕ
mark_of n = when eqb n 255 then None else Some n

unfoldable pub given_of : ℕ → ℕ → Given
given_of seat how = when eqb how 1 then AtOnce seat else when eqb how 2 then OutOfLine seat else NotGiven

unfoldable pub marks_in : List ℕ → Marks
marks_in r =
    record {
      placed = mark_of (get_or r placed_place 0);
      struck = set_of (be16 r struck_place);
      ended = mark_of (get_or r ended_place 0);
      given = given_of (get_or r given_place 0) (get_or r how_place 0);
    }

unfoldable pub sending_at : List ℕ → ℕ → Sending
sending_at r at = record { kind = kind_of (particulars_at r at); to = set_of (be16 r (at + mask_within)) }

unfoldable pub report_in : List ℕ → Report
report_in r = record { first = sending_at r first_place; second = sending_at r second_place; marks = marks_in r }

-- WHICH OCTETS ARE A REPORT'S, by the two tables

unfoldable pub is_mark : ℕ → Bool
is_mark n = ltb n 16 || eqb n 255

unfoldable pub is_how : ℕ → ℕ → Bool
is_how seat how = when eqb how 0 then eqb seat 255 else (ltb seat 16 && leb how 2)

unfoldable pub are_marks : List ℕ → Bool
are_marks r =
    eqb (get_or r struck_zero 0) 0 && is_mark (get_or r placed_place 0) && is_mark (get_or r ended_place 0)
    && is_how (get_or r given_place 0) (get_or r how_place 0) && eqb (get_or r how_zero 0) 0

-- it has what its kind has, and zeros elsewhere
unfoldable pub is_message : Particulars → ℕ → Bool
is_message q behind = alike q (particulars (kind_of q)) && ltb q.seat 16 && eqb behind 0

abbrev pub is_message_at : List ℕ → ℕ → Bool
is_message_at r at = is_message (particulars_at r at) (get_or r (at + zero_within) 0)

unfoldable pub is_report : List ℕ → Bool
is_report r = eqb (length r) report_size && are_marks r && is_message_at r first_place && is_message_at r second_place

-- WHICH REPORTS HAVE OCTETS: seats are 0 to 15, sets are of sixteen seats, and every number fits its octets

abbrev pub MarkFits : Option ℕ → Type 0
MarkFits None = Unit {0}
MarkFits (Some s) = s < 16

abbrev pub GivenFits : Given → Type 0
GivenFits NotGiven = Unit {0}
GivenFits (AtOnce s) = s < 16
GivenFits (OutOfLine s) = s < 16

abbrev pub KindFits : Kind → Type 0
KindFits say.Nothing = Unit {0}
KindFits (say.Granted p) = p < 256
KindFits (say.Taken s n) = (s < 16) × (n < 65536)
KindFits (say.Deny n) = n < 65536
KindFits (say.Idle n) = n < 65536
KindFits (say.Revoke n) = n < 65536
KindFits (say.Info k p) = (k < 256) × (p < 256)

pub record MessageFits (m : Sending) : Type 0 where
  pub kind : KindFits m.kind
  pub to : length m.to ≡ 16

pub record MarksFit (m : Marks) : Type 0 where
  pub placed : MarkFits m.placed
  pub struck : length m.struck ≡ 16
  pub ended : MarkFits m.ended
  pub given : GivenFits m.given

pub record ReportFits (p : Report) : Type 0 where
  pub first : MessageFits p.first
  pub second : MessageFits p.second
  pub marks : MarksFit p.marks

-- THE LAWS

-- the octets of a report say that report
abbrev pub SaysTheReport : Type 0
SaysTheReport = (p : Report) → ReportFits p → report_in (octets_of_report p) ≡ p

-- octets that are a report's are written back octet for octet
abbrev pub ReportWrittenBack : Type 0
ReportWrittenBack = (r : List ℕ) → Octets r → is_report r ≡ true → octets_of_report (report_in r) ≡ r

-- the first are always such octets, and the second always say such a report
abbrev pub HasOctets : Type 0
HasOctets = (p : Report) → ReportFits p → Octets (octets_of_report p) × (is_report (octets_of_report p) ≡ true)

abbrev pub SaysAReport : Type 0
SaysAReport = (r : List ℕ) → Octets r → is_report r ≡ true → ReportFits (report_in r)

-- a report's messages are those that are written as packets
abbrev pub SameMessages : Type 0
SameMessages = (r : List ℕ) → is_report r ≡ true →
    (told_in r 0 ≡ Some (report_in r).first.kind) × (told_in r 1 ≡ Some (report_in r).second.kind)
