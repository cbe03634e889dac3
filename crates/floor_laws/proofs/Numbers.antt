-- Every number of a desk has its place in octets, and whatever does keeps it so; then the desk's octets are numbers below 256.
-- Assumes nothing.
use Rattle.desk_octets.specs.Places.{phase_place, timers_place, holder_place, held_at_place, cause_place, waiting_column, priorities_column}
use Rattle.desk_octets.specs.Places.{ssrcs_column, highest_column, settings_start, identities_column}
use Prim.Native.Nat.{ℕ, ◌+◌, ◌*◌, ◌/◌, ◌%◌, ◌≤◌, ◌<◌}
use mathlib.Core.Path.{◌≡◌}
use mathlib.Core.Bool.{Bool, true, false}
use mathlib.Core.List.{List, [], ◌∷◌, ◌++◌}
use native.Mathlib.Omega.{arith}
use lib.Dec.{eqb}
use lib.ListN.{length, get_or, replicate}
use borrow.Author.Tests.{eqb-true}
use Rattle.line.specs.Line.{entry_of}
use Rattle.words.specs.Choice.{by_test, by_if, one}
use Rattle.octets.specs.Octets.{be16, be32, octets16, octets32, Octets, nth_octet}
use Rattle.line.specs.declared.Entry.{Entry}
use Rattle.line.specs.declared.Line.{Line}
use Rattle.line.specs.Line.{waiting, empty}
use Rattle.hall.specs.declared.Settings.{Settings}
use Rattle.hall.specs.declared.Hall.{Hall}
use Rattle.identities.specs.declared.Name.{Name}
use Rattle.identities.specs.declared.Names.{Names}
use Rattle.hall.specs.declared.Newcomer.{Newcomer}
use Rattle.joining.specs.declared.Joined.{Joined}
use Rattle.hall.specs.Seats.{is_present, empty_hall, with_seat, no_one}
use Rattle.identities.specs.Identity.{name_of, no_name, no_names, name_at, with_name}
use Rattle.identities.specs.Identity as identity
use Rattle.joining.specs.Join.{join}
use Rattle.joining.specs.Joins.{Joins, turned_away, sits_down}
use Rattle.joining.proofs.Joins.{every_join}
use Rattle.steps.specs.declared.AlsoRuns.{AlsoRuns}
use Rattle.steps.specs.declared.AlsoRuns.TheVariants.{NoMore, T2, T20}
use Rattle.steps.specs.declared.Phase.{Phase}
use Rattle.steps.specs.declared.Phase.TheVariants.{Stopped, Idle, Taken, Revoking}
use Rattle.events.specs.declared.Outcome.{Outcome}
use Rattle.events.specs.Events.{fresh, leave}
use Rattle.events.specs.declared.Desk.{Desk}
use Rattle.history.specs.Doing.{Doing, event, packet, leaves, joins, made, does, after}
use Rattle.ways.proofs.Walk.{every_way}
use Rattle.reach.specs.Sound.{Sound, cause_ok}
use Rattle.reach.proofs.Hall.{hall_ok}
use Rattle.desk_octets.specs.Form.{desk_letters, kind_octet, also_octet, timers_octet, holder_in, cause_in, phase_octets, entry_seat}
use Rattle.desk_octets.specs.Form.{entry_priority}
use Rattle.desk_octets.specs.Form.{line_octets, core_octets, bool_octets, octet_column, word_column, hall_octets, length_octets}
use Rattle.desk_octets.specs.Form.{name_octets}
use Rattle.desk_octets.specs.Form.{names_octets, octets_of_desk, phase_of, phase_at, entry_at, entries_at, core_at, octets_at, words_at}
use Rattle.desk_octets.specs.Form.{hall_at}
use Rattle.desk_octets.specs.Form.{name_in, names_at, seat_flags_octets}
use Rattle.desk_octets.specs.Columns.{column, rows}
use Rattle.desk_octets_laws.proofs.Back.{name_short}
use Rattle.words.proofs.Tests.{or_else}
use Rattle.floor_laws.specs.Kept.{desk_at, octets_for, Fits, DoingFits}
use Rattle.floor_laws.proofs.All.{All, all_both, all_same, all_padded, all_set, all_at, at_all, all_column, all_rows}
use Rattle.floor_laws.proofs.Narrow.{Small, none_small, NarrowCore, line_small, keeps_narrow}
use Rattle.hall.specs.declared.Flags.{Flags}
use Rattle.hall.specs.Seats.{no_flags}
use Rattle.seat_octets.specs.Layout.{flags_octet, settings_octets, SettingsFit}
use Rattle.seat_octets.proofs.Bits.{flags_few}
use Rattle.seat_octets.proofs.SettingsLaws.{settings_are_octets, settings_read_fit}

abbrev pub Octet : ℕ → Type 0
Octet n = n < 256

abbrev pub Word : ℕ → Type 0
Word n = n < 4294967296

abbrev pub OctetsOf : Name → Type 0
OctetsOf n = All Octet n.octets

pub record NarrowSeats (h : Hall) (ns : Names) : Type 0 where
  pub settings : SettingsFit h.settings
  pub ssrcs : All Word h.ssrcs
  pub highest : All Octet h.highest
  pub names : All OctetsOf ns.«of»

pub record NarrowDesk (d : Desk) : Type 0 where
  pub seats : NarrowSeats d.hall d.names
  pub core : NarrowCore d.core

-- a fresh desk
module _ (g : Settings) (k : SettingsFit g) where
  fresh_seats : NarrowSeats (empty_hall g) no_names
  unfolding empty_hall no_names
  fresh_seats =
      record {
        settings = k;
        ssrcs = all_same Word 16 0 (omega arith);
        highest = all_same Octet 16 0 (omega arith);
        names = all_same OctetsOf 16 no_name (all_same Octet 62 0 (omega arith));
      }

  fresh_core : NarrowCore fresh
  unfolding fresh
  fresh_core = record { line = line_small [] tt; holder = none_small }

  pub narrow_made : NarrowDesk (made g)
  narrow_made = record { seats = fresh_seats; core = fresh_core }

-- whatever does
module _ (h : Hall) (ns : Names) (k : NarrowSeats h ns) where
  one_set : (s : ℕ) (here : Bool) (n : Newcomer) (m : Name) → Word n.ssrc → Octet n.highest → OctetsOf m →
      NarrowSeats (with_seat h s here n) (with_name ns s m)
  unfolding with_seat with_name
  one_set s here n m a b e =
      record {
        settings = k.settings;
        ssrcs = all_set Word h.ssrcs s n.ssrc a k.ssrcs;
        highest = all_set Octet h.highest s n.highest b k.highest;
        names = all_set OctetsOf ns.«of» s m e k.names;
      }

  name_narrow : (o : List ℕ) → Octets o → OctetsOf (name_of o)
  unfolding name_of
  name_narrow o k = all_padded Octet 0 62 o (omega arith) (at_all Octet 0 o k)

  join_kept : (o : List ℕ) (n : Newcomer) → Fits o n → (j : Joined) → Joins h ns o n j → NarrowSeats j.hall j.names
  join_kept o n w j (turned_away r q) = rw q k
  join_kept o n w j (sits_down s p f z b q) = rw q (one_set s true n (name_of o) w.1 w.2 (name_narrow o w.0))

  pub top : (s : ℕ) → get_or h.highest s 0 < 256
  top s = all_at Octet 0 (omega arith) h.highest k.highest s

hall_kept : (d : Desk) (x : Doing) → DoingFits x → NarrowSeats d.hall d.names →
    NarrowSeats (does d x).desk.hall (does d x).desk.names
unfolding does leave
hall_kept d (event e) w k = k
hall_kept d (packet o) w k = k
hall_kept d (leaves t) w k =
    by_if (λ (l : Outcome). NarrowSeats l.desk.hall l.desk.names) (is_present d.hall t)
    (λ _. one_set d.hall d.names k t false no_one no_name (omega arith) (omega arith) (all_same Octet 62 0 (omega arith)))
    (λ _. k)
hall_kept d (joins o n) w k = join_kept d.hall d.names k o n w (join d.hall d.names o n) (every_join d.hall d.names o n)

pub narrow_kept : (d : Desk) (x : Doing) → DoingFits x → NarrowDesk d → NarrowDesk (after d x)
narrow_kept d x w k =
    record {
      seats = hall_kept d x w k.seats;
      core = keeps_narrow d x (does d x) (top d.hall d.names k.seats) k.core (every_way d x);
    }

-- THE OCTETS OF SUCH A DESK

all16 : (n : ℕ) → n < 65536 → All Octet (octets16 n)
unfolding octets16
all16 n k = (omega (arith, k), (omega arith, tt))

all32 : (n : ℕ) → Word n → All Octet (octets32 n)
unfolding octets32
all32 n k =
    all_both Octet (octets16 (n / 65536)) (octets16 (n % 65536)) (all16 (n / 65536) (omega (arith, k))) (all16 (n % 65536) (omega arith))

flag_small : (b : Bool) → Octet (one b)
flag_small true = omega arith
flag_small false = omega arith

kind_small : (p : Phase) → Octet (kind_octet p)
kind_small Stopped = omega arith
kind_small (Idle t7) = omega arith
kind_small (Taken e b) = omega arith
kind_small (Revoking e n) = omega arith

also_small : (b : AlsoRuns) → Octet (also_octet b)
also_small NoMore = omega arith
also_small T2 = omega arith
also_small T20 = omega arith

timers_small : (p : Phase) → Octet (timers_octet p)
timers_small Stopped = omega arith
timers_small (Idle t7) = flag_small t7
timers_small (Taken e b) = also_small b
timers_small (Revoking e n) = omega arith

pub cause_small : (p : Phase) → cause_ok p ≡ true → cause_in p < 65536
cause_small Stopped u = omega arith
cause_small (Idle t7) u = omega arith
cause_small (Taken e b) u = omega arith
cause_small (Revoking e n) u =
    by_test (eqb n 2) (λ q. omega (arith, eqb-true n 2 q)) (λ q. omega (arith, eqb-true n 4 (or_else (eqb n 2) (eqb n 4) q u)))

phase_octets_lem : (p : Phase) → Small (holder_in p) → cause_ok p ≡ true → All Octet (phase_octets p)
unfolding phase_octets
phase_octets_lem p s u = (kind_small p, (timers_small p, (s.0, (s.1, all16 (cause_in p) (cause_small p u)))))

line-octets : (l : Line) → length (waiting l) ≤ 15 → All Small l.entries → All Octet (line_octets l)
unfolding line_octets
line-octets l b k =
    let a : List ℕ = length (waiting l) ∷ 0 ∷ [] in
    let z : List ℕ = 0 ∷ [] in
    let s = column (entry_seat l.entries) 0 15 in
    let p = column (entry_priority l.entries) 0 15 in
    let single : All Octet z = (omega arith, tt) in
    let at : (i : ℕ) → Small (get_or l.entries i empty) = all_at Small empty none_small l.entries k in
    let front = all_both Octet a s (omega (arith, b), (omega arith, tt)) (all_column Octet (entry_seat l.entries) (λ i. (at i).0) 0 15) in
    let asz = all_both Octet (a ++ s) z front single in
    let aszp = all_both Octet (a ++ s ++ z) p asz (all_column Octet (entry_priority l.entries) (λ i. (at i).1) 0 15) in
    all_both Octet (a ++ s ++ z ++ p) z aszp single

bools_octets : (bs : List Bool) → All Octet (bool_octets bs)
unfolding bool_octets
bools_octets bs = all_column Octet (λ i. one (get_or bs i false)) (λ i. flag_small (get_or bs i false)) 0 16

seats_octets_lem : (xs : List ℕ) → All Octet xs → All Octet (octet_column xs)
unfolding octet_column
seats_octets_lem xs k = all_column Octet (λ i. get_or xs i 0) (all_at Octet 0 (omega arith) xs k) 0 16

words_octets : (xs : List ℕ) → All Word xs → All Octet (word_column xs)
unfolding word_column
words_octets xs k = all_rows Octet (λ i. octets32 (get_or xs i 0)) (λ i. all32 (get_or xs i 0) (all_at Word 0 (omega arith) xs k i)) 0 16

seat_flags_octets_lem : (fs : List Flags) → All Octet (seat_flags_octets fs)
unfolding seat_flags_octets
seat_flags_octets_lem fs =
    all_column Octet (λ i. flags_octet (get_or fs i no_flags)) (λ i. omega (arith, flags_few (get_or fs i no_flags))) 0 16

hall_octets_lem : (h : Hall) (ns : Names) → NarrowSeats h ns → All Octet (hall_octets h)
unfolding hall_octets
hall_octets_lem h ns k =
    let a = bool_octets h.present in
    let b = word_column h.ssrcs in
    let c = octet_column h.highest in
    let d = seat_flags_octets h.flags in
    let e : List ℕ = replicate 16 0 in
    let f = settings_octets h.settings in
    let ab = all_both Octet a b (bools_octets h.present) (words_octets h.ssrcs k.ssrcs) in
    let abc = all_both Octet (a ++ b) c ab (seats_octets_lem h.highest k.highest) in
    let abcd = all_both Octet (a ++ b ++ c) d abc (seat_flags_octets_lem h.flags) in
    let abcde = all_both Octet (a ++ b ++ c ++ d) e abcd (all_same Octet 16 0 (omega arith)) in
    let abcdef = all_both Octet (a ++ b ++ c ++ d ++ e) f abcde (at_all Octet 0 f (settings_are_octets h.settings k.settings)) in
    all_both Octet (a ++ b ++ c ++ d ++ e ++ f) (replicate 4 0) abcdef (all_same Octet 4 0 (omega arith))

name-octets : (n : Name) → OctetsOf n → All Octet (name_octets n)
unfolding name_octets
name-octets n k = all_column Octet (λ i. get_or n.octets i 0) (all_at Octet 0 (omega arith) n.octets k) 0 62

names_octets_lem : (ns : Names) → All OctetsOf ns.«of» → ((s : ℕ) → name_at ns s ≡ name_of (identity.octets_of (name_at ns s))) →
    All Octet (names_octets ns)
unfolding names_octets length_octets
names_octets_lem ns k b =
    let no : OctetsOf no_name = all_same Octet 62 0 (omega arith) in
    all_both Octet (column (λ s. length (identity.octets_of (name_at ns s))) 0 16) (rows (λ s. name_octets (name_at ns s)) 0 16)
    (all_column Octet (λ s. length (identity.octets_of (name_at ns s))) (λ s. omega (arith, name_short (name_at ns s) (b s))) 0 16)
    (all_rows Octet (λ s. name_octets (name_at ns s)) (λ s. name-octets (name_at ns s) (all_at OctetsOf no_name no ns.«of» k s)) 0 16)

module _ (d : Desk) (k : Sound d) (m : NarrowDesk d) where
  core_octets_lem : All Octet (core_octets d.core)
  unfolding core_octets
  core_octets_lem =
      let c = d.core in
      let g = m.seats.settings in
      let n = k.core.numbers in
      let l : length (waiting c.line) ≤ 15 =
      omega (arith, k.core.line.list.within, (hall_ok d.hall d.names k.seats).limit) in
      let x = phase_octets c.phase in
      let y = octets16 c.sequence in
      let z = c.c7 ∷ c.c20 ∷ [] in
      let xy = all_both Octet x y (phase_octets_lem c.phase m.core.holder k.core.floor.cause) (all16 c.sequence n.sequence) in
      let xyz = all_both Octet (x ++ y) z xy (omega (arith, n.c7, g.c7), (omega (arith, n.c20, g.c20), tt)) in
      all_both Octet (x ++ y ++ z) (line_octets c.line) xyz (line-octets c.line l m.core.line)

  pub desk-octets : Octets (octets_for d)
  unfolding octets_of_desk
  desk-octets =
      let c = core_octets d.core in
      let h = hall_octets d.hall in
      let n = names_octets d.names in
      let a = all_both Octet desk_letters c (omega arith, (omega arith, (omega arith, (omega arith, tt)))) core_octets_lem in
      let b = all_both Octet (desk_letters ++ c) h a (hall_octets_lem d.hall d.names m.seats) in
      let e = all_both Octet (desk_letters ++ c ++ h) n b (names_octets_lem d.names m.seats.names k.seats.behind) in
      all_at Octet 0 (omega arith) (desk_letters ++ c ++ h ++ n) e

-- THE DESK THAT OCTETS STAND FOR IS SUCH A ONE

module _ (s : List ℕ) (o : Octets s) where
  pub half_small : (at : ℕ) → be16 s at < 65536
  unfolding be16
  half_small at = omega (arith, o at, o (at + 1))

  pub word_small : (at : ℕ) → Word (be32 s at)
  unfolding be32
  word_small at = omega (arith, half_small at, half_small (at + 2))

  name-at : (seat : ℕ) → OctetsOf (name_in s seat)
  unfolding name_in
  name-at seat = all_column Octet (nth_octet s) o (identities_column + 62 * seat) 62

  seats_at : NarrowSeats (hall_at s) (names_at s)
  unfolding hall_at words_at octets_at names_at
  seats_at =
      record {
        settings = settings_read_fit s settings_start o;
        ssrcs = all_column Word (λ i. be32 s (ssrcs_column + 4 * i)) (λ i. word_small (ssrcs_column + 4 * i)) 0 16;
        highest = all_column Octet (nth_octet s) o highest_column 16;
        names = all_column OctetsOf (name_in s) name-at 0 16;
      }

  holder-at : (kind timers : ℕ) (e : Entry) (cause : ℕ) → Small e → Small (holder_in (phase_of kind timers e cause))
  unfolding phase_of
  holder-at kind timers e cause k =
      by_if (λ (x : Phase). Small (holder_in x)) (eqb kind 0) (λ _. none_small)
      (λ _. by_if (λ (x : Phase). Small (holder_in x)) (eqb kind 1) (λ _. none_small)
      (λ _. by_if (λ (x : Phase). Small (holder_in x)) (eqb kind 2) (λ _. k) (λ _. k)))

  core_narrow : NarrowCore (core_at s)
  unfolding core_at entries_at phase_at
  core_narrow =
      record {
        line = all_column Small (entry_at s) (λ i. (o (waiting_column + i), o (priorities_column + i))) 0 15;
        holder =
            holder-at (nth_octet s phase_place) (nth_octet s timers_place) (entry_of (nth_octet s holder_place) (nth_octet s held_at_place))
            (be16 s cause_place) (o holder_place, o held_at_place);
      }

  pub narrow_at : NarrowDesk (desk_at s)
  narrow_at = record { seats = seats_at; core = core_narrow }
