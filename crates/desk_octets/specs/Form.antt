-- The desk in lent octets (document 01, "The desk": "For C programs the desk rests in lent octets, their form fixed in docs/"), as
-- docs/FORMS.md has it: what stands at each of the 1,200 places, in that page's order; then the desk that octets stand for; then when
-- octets are in the form as far as the table says. That the desk keeps what every desk keeps that steps can reach (the line sorted, zeros
-- behind it, ..) is a question to the desk and not to its octets, and is asked in crates core_test and seats_test. The places have their
-- names in specs/Places. Assumes nothing.
use Rattle.std.specs.Prelude.{ℕ, ◌+◌, ◌*◌, Bool, false, ◌&&◌, List, [], ◌∷◌, ◌++◌, leb, eqb, length, get_or, replicate}
use Rattle.line.specs.Line.{entry_of}
use Rattle.words.specs.Choice.{when◌then◌else◌, one}
use Rattle.words.specs.Below.{all_below}
use Rattle.octets.specs.Octets.{be16, be32, octets16, octets32, nth_octet}
use Rattle.line.specs.declared.Entry.{Entry}
use Rattle.line.specs.declared.Line.{Line}
use Rattle.line.specs.Line.{waiting, empty}
use Rattle.hall.specs.declared.Settings.{Settings}
use Rattle.hall.specs.declared.Flags.{Flags}
use Rattle.hall.specs.Seats.{no_flags}
use Rattle.seat_octets.specs.Layout.{flags_octet, flags_of, flags_top, settings_octets, settings_in, unused_zero}
use Rattle.hall.specs.declared.Hall.{Hall}
use Rattle.identities.specs.declared.Name.{Name}
use Rattle.identities.specs.declared.Names.{Names}
use Rattle.identities.specs.Identity.{name_at}
use Rattle.identities.specs.Identity as identity
use Rattle.steps.specs.declared.AlsoRuns.{AlsoRuns}
use Rattle.steps.specs.declared.AlsoRuns.TheVariants.{NoMore, T2, T20}
use Rattle.steps.specs.declared.Phase.{Phase}
use Rattle.steps.specs.declared.Phase.TheVariants.{Stopped, Idle, Taken, Revoking}
use Rattle.steps.specs.declared.Core.{Core}
use Rattle.desk_octets.specs.Places.{phase_place, timers_place, holder_place, held_at_place, cause_place, sequence_place, c7_place}
use Rattle.desk_octets.specs.Places.{c20_place}
use Rattle.desk_octets.specs.Places.{count_place, count_zero, waiting_column, waiting_zero, priorities_column, priorities_zero}
use Rattle.desk_octets.specs.Places.{taken_column}
use Rattle.desk_octets.specs.Places.{ssrcs_column, highest_column, flags_column, flags_zeros, settings_start, settings_end, lengths_column}
use Rattle.desk_octets.specs.Places.{identities_column, desk_size}
use Rattle.desk_octets.specs.Columns.{column, rows}

-- THE OCTETS OF A DESK

-- 0: the letters F, D, the form, a zero
abbrev pub desk_letters : List ℕ
desk_letters = 70 ∷ 68 ∷ 1 ∷ 0 ∷ []

-- 4 to 9: the phase, an octet or a number for each thing that a phase may have, and zero where it has none
abbrev pub kind_octet : Phase → ℕ
kind_octet Stopped = 0
kind_octet (Idle t7) = 1
kind_octet (Taken e b) = 2
kind_octet (Revoking e n) = 3

abbrev pub also_octet : AlsoRuns → ℕ
also_octet NoMore = 0
also_octet T2 = 1
also_octet T20 = 2

abbrev pub timers_octet : Phase → ℕ
timers_octet Stopped = 0
timers_octet (Idle t7) = one t7
timers_octet (Taken e b) = also_octet b
timers_octet (Revoking e n) = 0

abbrev pub holder_in : Phase → Entry
holder_in Stopped = empty
holder_in (Idle t7) = empty
holder_in (Taken e b) = e
holder_in (Revoking e n) = e

abbrev pub cause_in : Phase → ℕ
cause_in Stopped = 0
cause_in (Idle t7) = 0
cause_in (Taken e b) = 0
cause_in (Revoking e n) = n

unfoldable pub phase_octets : Phase → List ℕ
phase_octets p = kind_octet p ∷ timers_octet p ∷ (holder_in p).seat ∷ (holder_in p).priority ∷ octets16 (cause_in p)

-- 14 to 47: how many wait, the fifteen seats, the fifteen priorities, each with a zero behind it
abbrev pub entry_seat : List Entry → ℕ → ℕ
entry_seat es i = (get_or es i empty).seat

abbrev pub entry_priority : List Entry → ℕ → ℕ
entry_priority es i = (get_or es i empty).priority

unfoldable pub line_octets : Line → List ℕ
line_octets l =
    (length (waiting l) ∷ 0 ∷ []) ++ column (entry_seat l.entries) 0 15 ++ (0 ∷ []) ++ column (entry_priority l.entries) 0 15
    ++ (0 ∷ [])

-- 4 to 47
unfoldable pub core_octets : Core → List ℕ
core_octets c = phase_octets c.phase ++ octets16 c.sequence ++ (c.c7 ∷ c.c20 ∷ []) ++ line_octets c.line

-- columns of sixteen seats
unfoldable pub bool_octets : List Bool → List ℕ
bool_octets bs = column (λ i. one (get_or bs i false)) 0 16

unfoldable pub seat_flags_octets : List Flags → List ℕ
seat_flags_octets fs = column (λ i. flags_octet (get_or fs i no_flags)) 0 16

unfoldable pub octet_column : List ℕ → List ℕ
octet_column xs = column (λ i. get_or xs i 0) 0 16

unfoldable pub word_column : List ℕ → List ℕ
word_column xs = rows (λ i. octets32 (get_or xs i 0)) 0 16

-- 48 to 191
unfoldable pub hall_octets : Hall → List ℕ
hall_octets h =
    bool_octets h.present ++ word_column h.ssrcs ++ octet_column h.highest ++ seat_flags_octets h.flags ++ replicate 16 0
    ++ settings_octets h.settings ++ replicate 4 0

-- 192 to 1,199: the sixteen lengths, then sixty_two octets for each seat
unfoldable pub length_octets : Names → List ℕ
length_octets ns = column (λ s. length (identity.octets_of (name_at ns s))) 0 16

unfoldable pub name_octets : Name → List ℕ
name_octets n = column (λ i. get_or n.octets i 0) 0 62

unfoldable pub names_octets : Names → List ℕ
names_octets ns = length_octets ns ++ rows (λ s. name_octets (name_at ns s)) 0 16

-- the whole desk
unfoldable pub octets_of_desk : Core → Hall → Names → List ℕ
octets_of_desk c h ns = desk_letters ++ core_octets c ++ hall_octets h ++ names_octets ns

-- THE DESK THAT OCTETS STAND FOR

abbrev pub bool_at : List ℕ → ℕ → Bool
bool_at s i = eqb (get_or s i 0) 1

unfoldable pub also_of : ℕ → AlsoRuns
also_of n = when eqb n 0 then NoMore else when eqb n 1 then T2 else T20

unfoldable pub phase_of : ℕ → ℕ → Entry → ℕ → Phase
phase_of kind timers holder cause =
    when eqb kind 0 then Stopped else when eqb kind 1 then Idle (eqb timers 1) else when eqb kind 2 then Taken holder (also_of timers)
    else Revoking holder cause

unfoldable pub phase_at : List ℕ → Phase
phase_at s =
    phase_of (nth_octet s phase_place) (nth_octet s timers_place) (entry_of (nth_octet s holder_place) (nth_octet s held_at_place))
    (be16 s cause_place)

-- the fifteen seats, and their priorities beside them
abbrev pub entry_at : List ℕ → ℕ → Entry
entry_at s i = entry_of (nth_octet s (waiting_column + i)) (nth_octet s (priorities_column + i))

unfoldable pub entries_at : List ℕ → List Entry
entries_at s = column (entry_at s) 0 15

unfoldable pub core_at : List ℕ → Core
core_at s =
    record {
      phase = phase_at s;
      line = record { entries = entries_at s; len = nth_octet s count_place };
      sequence = be16 s sequence_place;
      c7 = nth_octet s c7_place;
      c20 = nth_octet s c20_place;
    }

-- columns of sixteen seats, from a place on
unfoldable pub bools_at : List ℕ → ℕ → List Bool
bools_at s at = column (bool_at s) at 16

unfoldable pub octets_at : List ℕ → ℕ → List ℕ
octets_at s at = column (nth_octet s) at 16

unfoldable pub words_at : List ℕ → ℕ → List ℕ
words_at s at = column (λ i. be32 s (at + 4 * i)) 0 16

unfoldable pub seat_flags_at : List ℕ → ℕ → List Flags
seat_flags_at s at = column (λ i. flags_of (nth_octet s (at + i))) 0 16

abbrev pub settings_at : List ℕ → Settings
settings_at s = settings_in s settings_start

unfoldable pub hall_at : List ℕ → Hall
hall_at s =
    record {
      present = bools_at s taken_column;
      ssrcs = words_at s ssrcs_column;
      highest = octets_at s highest_column;
      flags = seat_flags_at s flags_column;
      settings = settings_at s;
    }

-- the sixty_two octets of a seat's identity begin sixty_two further for each seat before it
unfoldable pub name_in : List ℕ → ℕ → Name
name_in s seat = record { octets = column (nth_octet s) (identities_column + 62 * seat) 62; len = nth_octet s (lengths_column + seat) }

unfoldable pub names_at : List ℕ → Names
names_at s = record { «of» = column (name_in s) 0 16 }

-- OCTETS THAT HOLD WHAT THE TABLE SAYS

-- n octets from a place on are each at most so much: who is taken is said by 0 or 1, zeros are at most 0
unfoldable pub up_to : ℕ → List ℕ → ℕ → ℕ → Bool
up_to top s at n = all_below (λ i. leb (nth_octet s (at + i)) top) n

-- what a phase does not have is zero
unfoldable pub phase_fits : ℕ → ℕ → Entry → ℕ → Bool
phase_fits kind timers holder cause =
    when eqb kind 0 then eqb timers 0 && eqb holder.seat 0 && eqb holder.priority 0 && eqb cause 0
    else when eqb kind 1 then leb timers 1 && eqb holder.seat 0 && eqb holder.priority 0 && eqb cause 0
    else when eqb kind 2 then leb timers 2 && eqb cause 0
    else eqb kind 3 && eqb timers 0

unfoldable pub letters_fit : List ℕ → Bool
letters_fit s = eqb (nth_octet s 0) 70 && eqb (nth_octet s 1) 68 && eqb (nth_octet s 2) 1 && eqb (nth_octet s 3) 0

unfoldable pub core_fits : List ℕ → Bool
core_fits s =
    phase_fits (nth_octet s phase_place) (nth_octet s timers_place) (entry_of (nth_octet s holder_place) (nth_octet s held_at_place))
    (be16 s cause_place)
    && leb (nth_octet s count_place) 15 && eqb (nth_octet s count_zero) 0 && eqb (nth_octet s waiting_zero) 0
    && eqb (nth_octet s priorities_zero) 0

unfoldable pub hall_fits : List ℕ → Bool
hall_fits s =
    up_to 1 s taken_column 16 && up_to flags_top s flags_column 16 && up_to 0 s flags_zeros 16 && unused_zero s settings_start
    && up_to 0 s settings_end 4

unfoldable pub names_fit : List ℕ → Bool
names_fit s = up_to 62 s lengths_column 16

unfoldable pub canonical : List ℕ → Bool
canonical s = eqb (length s) desk_size && letters_fit s && core_fits s && hall_fits s && names_fit s
