-- Forth: octets that hold what the table says are those of the desk that they stand for. Octets are the column of what stands in them, and
-- so is each piece of that desk's. So a part that is written leaves the octets of the desk with that part. Assumes nothing.
use Prim.Native.Nat.{ℕ, zero, suc, ◌+◌, ◌*◌, ◌≤◌, ◌<◌}
use native.Mathlib.Nat.{zero-add, min-eq_left}
use native.Mathlib.Omega.{arith}
use mathlib.Core.Path.{◌≡◌, refl, sym, ap, ◌∙◌}
use mathlib.Core.Bool.{true, false}
use mathlib.Core.List.{List, ◌++◌, append_assoc, append-nil}
use lib.ListN.{length, get_or, drop, replicate, length-take, length-replicate, drop_of_length-le}
use lib.Seq.{drop_at}
use borrow.Author.Tests.{le-leb}
use Rattle.line.specs.Line.{entry_of}
use Rattle.words.specs.Choice.{one}
use Rattle.octets.specs.Octets.{be16, be32, octets32, over, Octets, nth_octet}
use Rattle.line.specs.Line.{waiting}
use Rattle.hall.specs.declared.Flags.{Flags}
use Rattle.hall.specs.declared.Hall.{Hall}
use Rattle.hall.specs.Seats.{no_flags}
use Rattle.identities.specs.declared.Name.{Name}
use Rattle.identities.specs.declared.Names.{Names}
use Rattle.identities.specs.Identity.{name_at}
use Rattle.identities.specs.Identity as identity
use Rattle.steps.specs.declared.Core.{Core}
use Rattle.desk_octets.specs.Places.{phase_place, timers_place, holder_place, held_at_place, cause_place, sequence_place, count_place}
use Rattle.desk_octets.specs.Places.{count_zero, waiting_zero, priorities_zero, taken_column, ssrcs_column, highest_column, flags_column}
use Rattle.desk_octets.specs.Places.{flags_zeros, settings_start, settings_end, lengths_column, identities_column, desk_size}
use Rattle.desk_octets.specs.Columns.{column, rows}
use Rattle.seat_octets.specs.Layout.{flags_octet, flags_of, flags_top, settings_size, settings_octets, unused_zero}
use Rattle.seat_octets.proofs.Bits.{flags_forth}
use Rattle.seat_octets.proofs.SettingsLaws.{settings_forth}
use Rattle.desk_octets.specs.Form.{desk_letters, phase_octets, line_octets, core_octets, bool_octets, octet_column, seat_flags_octets}
use Rattle.desk_octets.specs.Form.{word_column}
use Rattle.desk_octets.specs.Form.{hall_octets, length_octets, name_octets, names_octets, octets_of_desk, bool_at, entry_at, phase_at}
use Rattle.desk_octets.specs.Form.{entries_at, core_at, bools_at, octets_at, words_at, seat_flags_at, settings_at, hall_at, name_in}
use Rattle.desk_octets.specs.Form.{names_at}
use Rattle.desk_octets.specs.Form.{up_to, phase_fits, letters_fit, core_fits, hall_fits, names_fit, canonical}
use Rattle.desk_octets.proofs.Columns.{column_is, column-same, column-two, rows_same, length-column, get_d_column}
use Rattle.desk_octets.proofs.Pieces.{name_of_seat, part-column}
use Rattle.std.proofs.lemmas.Bool.Decides.{nat_tests}
use Rattle.desk_octets.proofs.Flags.{flag_forth}
use Rattle.octets.proofs.Numbers.{octets16_forth, octets32_forth}
use Rattle.desk_octets.proofs.Phases.{phase_forth}
use Rattle.desk_octets.proofs.Tables.{column_all, rows-column}
use Rattle.desk_octets.proofs.Lengths.{length_core, length-octets}
use Rattle.desk_octets.proofs.Facts.{up_to_lem, fits_whole, fits_room, fits-letters, fits_core, fits_hall, fits_names, core_facts}
use Rattle.desk_octets.proofs.Facts.{hall_facts}

-- n octets from a place on
abbrev from : List ℕ → ℕ → ℕ → List ℕ
from s at n = column (nth_octet s) at n

-- columns of the hall
bools_forth : (s : List ℕ) (at : ℕ) → up_to 1 s at 16 ≡ true → bool_octets (bools_at s at) ≡ from s at 16
unfolding bool_octets bools_at
bools_forth s at e =
    column-same (λ i. one (get_or (column (bool_at s) at 16) i false)) (nth_octet s) 0 at 16
    (λ i k.
    ap (λ (j : ℕ). one (get_or (column (bool_at s) at 16) j false)) (zero-add i) ∙ ap one (get_d_column (bool_at s) at 16 i false k)
    ∙ flag_forth (nth_octet s (at + i)) (le-leb (nth_octet s (at + i)) 1 (up_to_lem 1 s at 16 e i k)))

octets_forth : (s : List ℕ) (at : ℕ) → octet_column (octets_at s at) ≡ from s at 16
unfolding octet_column octets_at
octets_forth s at = column_all (from s at 16) 16 0 (length-column (nth_octet s) at 16)

four_forth : (s : List ℕ) (at : ℕ) → Octets s → octets32 (be32 s at) ≡ from s at 4
unfolding column
four_forth s at o =
    let a : at + 1 ≡ suc at = omega arith in
    let b : at + 2 ≡ suc (suc at) = omega arith in
    let c : at + 3 ≡ suc (suc (suc at)) = omega arith in
    octets32_forth s at o ∙ rw (a, b, c)

words_forth : (s : List ℕ) (at : ℕ) → Octets s → word_column (words_at s at) ≡ from s at 64
unfolding word_column words_at
words_forth s at o =
    rows_same (λ i. octets32 (get_or (column (λ j. be32 s (at + 4 * j)) 0 16) i 0)) (λ i. column (nth_octet s) (at + 4 * i) 4) 0 16
    (λ i k.
    ap octets32 (ap (λ (j : ℕ). get_or (column (λ m. be32 s (at + 4 * m)) 0 16) j 0) (zero-add i)
    ∙ get_d_column (λ j. be32 s (at + 4 * j)) 0 16 i 0 k)
    ∙ four_forth s (at + 4 * (0 + i)) o)
    ∙ rows-column (nth_octet s) 4 at 16

seat_flags_forth : (s : List ℕ) (at : ℕ) → up_to flags_top s at 16 ≡ true → seat_flags_octets (seat_flags_at s at) ≡ from s at 16
unfolding seat_flags_octets seat_flags_at
seat_flags_forth s at e =
    let f : ℕ → Flags = λ i. flags_of (nth_octet s (at + i)) in
    column-same (λ i. flags_octet (get_or (column f 0 16) i no_flags)) (nth_octet s) 0 at 16
    (λ i k.
    ap (λ (j : ℕ). flags_octet (get_or (column f 0 16) j no_flags)) (zero-add i)
    ∙ ap flags_octet (get_d_column f 0 16 i no_flags k ∙ ap f (zero-add i))
    ∙ flags_forth (nth_octet s (at + i)) (up_to_lem flags_top s at 16 e i k))

zero_in : (n i : ℕ) → ◌≡◌ {A = ℕ} (get_or (replicate n 0) i 0) 0
zero_in zero i = refl
zero_in (suc n) zero = refl
zero_in (suc n) (suc i) = zero_in n i

zeros_forth : (s : List ℕ) (at n : ℕ) → ((i : ℕ) → i < n → nth_octet s (at + i) ≡ 0) → replicate n 0 ≡ from s at n
zeros_forth s at n z = column_is (nth_octet s) (replicate n 0) at n 0 (length-replicate n 0) (λ i b. zero_in n i ∙ sym (z i b))

-- the settings, and the four zeros behind them
settings_there : (s : List ℕ) → Octets s → desk_size ≤ length s → unused_zero s settings_start ≡ true → up_to 0 s settings_end 4 ≡ true →
    settings_octets (settings_at s) ++ replicate 4 0 ≡ from s settings_start 16
settings_there s o l z e =
    let g : settings_octets (settings_at s) ≡ from s settings_start settings_size =
    settings_forth s settings_start o (omega arith) z ∙ part-column s settings_start settings_size (omega arith) in
    let y : replicate 4 0 ≡ from s settings_end 4 =
    zeros_forth s settings_end 4 (λ i b. omega (arith, up_to_lem 0 s settings_end 4 e i b)) in
    rw (g, y) (column-two (nth_octet s) settings_start settings_size 4)

hall_forth : (s : List ℕ) → Octets s → desk_size ≤ length s → hall_fits s ≡ true → hall_octets (hall_at s) ≡ from s taken_column 144
unfolding hall_octets hall_at
hall_forth s o l e =
    let f = hall_facts s e in
    let z : replicate 16 0 ≡ from s flags_zeros 16 =
    zeros_forth s flags_zeros 16 (λ i b. omega (arith, up_to_lem 0 s flags_zeros 16 f.behind_flags i b)) in
    rw (
      bools_forth s taken_column f.taken,
      words_forth s ssrcs_column o,
      octets_forth s highest_column,
      seat_flags_forth s flags_column f.flags,
      z,
    )
    (append_assoc
    (from s taken_column 16 ++ from s ssrcs_column 64 ++ from s highest_column 16 ++ from s flags_column 16 ++ from s flags_zeros 16)
    (settings_octets (settings_at s)) (replicate 4 0)
    ∙ rw (
      settings_there s o l f.settings_unused f.behind-settings,
      column-two (nth_octet s) taken_column 16 64,
      column-two (nth_octet s) taken_column 80 16,
      column-two (nth_octet s) taken_column 96 16,
      column-two (nth_octet s) taken_column 112 16,
      column-two (nth_octet s) taken_column 128 16,
    ))

-- the core
phase_octets_lem : (s : List ℕ) → Octets s →
    phase_fits (nth_octet s phase_place) (nth_octet s timers_place) (entry_of (nth_octet s holder_place) (nth_octet s held_at_place))
    (be16 s cause_place)
    ≡ true →
    phase_octets (phase_at s) ≡ from s phase_place 6
unfolding phase_octets phase_at column
phase_octets_lem s o e =
    let f =
    phase_forth (nth_octet s phase_place) (nth_octet s timers_place) (entry_of (nth_octet s holder_place) (nth_octet s held_at_place))
    (be16 s cause_place) e in
    rw (f.kinds, f.timed, f.seats, f.priorities, f.causes, octets16_forth s cause_place o)

count_forth : (s : List ℕ) → nth_octet s count_place ≤ 15 → length (waiting (core_at s).line) ≡ nth_octet s count_place
unfolding waiting core_at entries_at
count_forth s h = length-take (nth_octet s count_place) (column (entry_at s) 0 15) ∙ rw (length-column (entry_at s) 0 15) (min-eq_left h)

line_forth : (s : List ℕ) → nth_octet s count_place ≤ 15 → nth_octet s count_zero ≡ 0 → nth_octet s waiting_zero ≡ 0 →
    nth_octet s priorities_zero ≡ 0 →
    line_octets (core_at s).line ≡ from s count_place 34
unfolding line_octets core_at entries_at column
line_forth s h a b c = rw (count_forth s h, a, b, c)

core_forth : (s : List ℕ) → Octets s → core_fits s ≡ true → core_octets (core_at s) ≡ from s phase_place 44
unfolding core_octets core_at column
core_forth s o e =
    let f = core_facts s e in
    rw (
      phase_octets_lem s o f.phase,
      octets16_forth s sequence_place o,
      line_forth s f.few f.behind_count f.behind-waiting f.behind_priorities,
    )

-- the identities
length_forth : (s : List ℕ) (seat : ℕ) → nth_octet s (lengths_column + seat) ≤ 62 →
    length (identity.octets_of (name_in s seat)) ≡ nth_octet s (lengths_column + seat)
unfolding identity.octets_of name_in
length_forth s seat h =
    length-take (nth_octet s (lengths_column + seat)) (from s (identities_column + 62 * seat) 62)
    ∙ rw (length-column (nth_octet s) (identities_column + 62 * seat) 62) (min-eq_left h)

name_forth : (s : List ℕ) (seat : ℕ) → name_octets (name_in s seat) ≡ from s (identities_column + 62 * seat) 62
unfolding name_octets name_in
name_forth s seat =
    column_all (from s (identities_column + 62 * seat) 62) 62 0 (length-column (nth_octet s) (identities_column + 62 * seat) 62)

lengths_forth : (s : List ℕ) → up_to 62 s lengths_column 16 ≡ true → length_octets (names_at s) ≡ from s lengths_column 16
unfolding length_octets
lengths_forth s e =
    column-same (λ k. length (identity.octets_of (name_at (names_at s) k))) (nth_octet s) 0 lengths_column 16
    (λ i k.
    ap (λ (j : ℕ). length (identity.octets_of (name_at (names_at s) j))) (zero-add i)
    ∙ ap (λ (n : Name). length (identity.octets_of n)) (name_of_seat s i k)
    ∙ length_forth s i (up_to_lem 62 s lengths_column 16 e i k))

identities_forth : (s : List ℕ) → rows (λ k. name_octets (name_at (names_at s) k)) 0 16 ≡ from s identities_column 992
identities_forth s =
    rows_same (λ k. name_octets (name_at (names_at s) k)) (λ k. from s (identities_column + 62 * k) 62) 0 16
    (λ i k.
    let z : 0 + i ≡ i = zero-add i in
    rw z (ap name_octets (name_of_seat s i k) ∙ name_forth s i))
    ∙ rows-column (nth_octet s) 62 identities_column 16

names_forth : (s : List ℕ) → names_fit s ≡ true → names_octets (names_at s) ≡ from s lengths_column 1008
unfolding names_octets names_fit
names_forth s e = rw (lengths_forth s e, identities_forth s) (column-two (nth_octet s) lengths_column 16 992)

-- the whole
letters_forth : (s : List ℕ) → letters_fit s ≡ true → desk_letters ≡ from s 0 4
unfolding letters_fit column
letters_forth s e = grind (arith, nat_tests)

whole : (s : List ℕ) → length s ≡ desk_size → from s 0 desk_size ≡ s
whole s l = column_all s desk_size 0 l

pub forth : (s : List ℕ) → Octets s → canonical s ≡ true → octets_of_desk (core_at s) (hall_at s) (names_at s) ≡ s
unfolding octets_of_desk
forth s o e =
    rw (
      core_forth s o (fits_core s e),
      hall_forth s o (fits_room s e) (fits_hall s e),
      names_forth s (fits_names s e),
      column-two (nth_octet s) phase_place 44 144,
      column-two (nth_octet s) phase_place 188 1008,
    )
    (ap (λ (l : List ℕ). l ++ from s phase_place 1196) (letters_forth s (fits-letters s e))
    ∙ column-two (nth_octet s) 0 phase_place 1196
    ∙ whole s (fits_whole s e))

-- the core written into them leaves those of the desk with that core
behind_core : (d : Core) (h : Hall) (ns : Names) → drop taken_column (octets_of_desk d h ns) ≡ hall_octets h ++ names_octets ns
unfolding octets_of_desk
behind_core d h ns =
    rw (append_assoc (core_octets d) (hall_octets h) (names_octets ns))
    (drop_at (core_octets d) (hall_octets h ++ names_octets ns) 44 (length_core d))

over_core : (c d : Core) (h : Hall) (ns : Names) → over (octets_of_desk d h ns) phase_place (core_octets c) ≡ octets_of_desk c h ns
unfolding over octets_of_desk
over_core c d h ns = rw (length_core c, behind_core d h ns, append_assoc (core_octets c) (hall_octets h) (names_octets ns))

pub core_written : (s : List ℕ) → Octets s → canonical s ≡ true → (c : Core) →
    over s phase_place (core_octets c) ≡ octets_of_desk c (hall_at s) (names_at s)
core_written s o e c =
    ap (λ (x : List ℕ). over x phase_place (core_octets c)) (sym (forth s o e)) ∙ over_core c (core_at s) (hall_at s) (names_at s)

-- a whole desk written over one
pub over-desk : (d : List ℕ) (c : Core) (h : Hall) (ns : Names) → length d ≡ desk_size →
    over d 0 (octets_of_desk c h ns) ≡ octets_of_desk c h ns
unfolding over
over-desk d c h ns l =
    let b : length d ≤ desk_size = omega (arith, l) in rw (length-octets c h ns, drop_of_length-le d b) (append-nil (octets_of_desk c h ns))
