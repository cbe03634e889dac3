-- Back: each part of the desk that a desk's octets stand for is that desk's own part. Places are found by computing, since every piece has
-- a known length; a column is then brought back value by value. Assumes nothing.
use Rattle.desk_octets.specs.Places.{sequence_place, c7_place, c20_place, count_place, taken_column, ssrcs_column, highest_column}
use Rattle.desk_octets.specs.Places.{lengths_column}
use Rattle.desk_octets.specs.Places.{identities_column, flags_column, settings_start}
use Prim.Native.Nat.{ℕ, ◌+◌, ◌*◌, ◌/◌, ◌%◌, ◌≤◌, ◌<◌}
use native.Mathlib.Nat.{zero-add}
use native.Mathlib.Omega.{arith}
use mathlib.Core.Path.{◌≡◌, refl, sym, ap, ◌∙◌}
use mathlib.Core.Bool.{Bool, false}
use mathlib.Core.List.{List, ◌++◌, append_assoc}
use lib.Dec.{eqb}
use lib.ListN.{length, get_or, drop, get_or-append, length-take, replicate}
use lib.Seq.{get_or-drop, get_or-append-add, take_all}
use Rattle.words.specs.Choice.{one}
use Rattle.words.specs.Table.{padded-length}
use Rattle.octets.specs.Octets.{be16, be32, octets16, octets32, nth_octet}
use Rattle.line.specs.declared.Line.{Line}
use Rattle.line.specs.Line.{waiting, line_of, empty}
use Rattle.hall.specs.declared.Hall.{Hall}
use Rattle.identities.specs.declared.Name.{Name}
use Rattle.identities.specs.declared.Names.{Names}
use Rattle.identities.specs.Identity.{name_of, name_at, no_name}
use Rattle.identities.specs.Identity as identity
use Rattle.steps.specs.declared.Core.{Core}
use Rattle.desk_octets.specs.Columns.{column, rows}
use Rattle.hall.specs.declared.Flags.{Flags}
use Rattle.hall.specs.Seats.{no_flags}
use Rattle.seat_octets.specs.Layout.{flags_octet, flags_of, settings_octets}
use Rattle.seat_octets.proofs.Bits.{flags_back}
use Rattle.seat_octets.proofs.SettingsLaws.{settings_back}
use Rattle.desk_octets.specs.Form.{desk_letters, cause_in, phase_octets, line_octets, core_octets, bool_octets, octet_column}
use Rattle.desk_octets.specs.Form.{seat_flags_octets}
use Rattle.desk_octets.specs.Form.{word_column, hall_octets, length_octets, name_octets, names_octets, octets_of_desk, phase_at, entries_at}
use Rattle.desk_octets.specs.Form.{core_at, bools_at, octets_at, words_at, seat_flags_at, settings_at, hall_at, name_in, names_at}
use Rattle.desk_octets.proofs.Columns.{column-same, column_is, column_is_from_0, length-column, get_d_column}
use Rattle.desk_octets.proofs.Pieces.{length-name}
use Rattle.desk_octets_laws.specs.Forms.{Shaped, StandsFor}
use Rattle.desk_octets.proofs.Flags.{flag_back}
use Rattle.octets.proofs.Numbers.{back16, back32}
use Rattle.desk_octets.proofs.Phases.{phase_back}
use Rattle.desk_octets.proofs.Tables.{column_all, get_d_rows}

-- a line by its list: fifteen places, and as many wait as it says
pub line_places : (l : Line) → l ≡ line_of (waiting l) → length l.entries ≡ 15
unfolding line_of
line_places l e = ap (λ (x : Line). length x.entries) e ∙ padded-length empty 15 (waiting l)

pub line_count : (l : Line) → l ≡ line_of (waiting l) → length (waiting l) ≤ 15
unfolding waiting
line_count l e = simp length-take (omega (arith, line_places l e))

line-length : (l : Line) → l ≡ line_of (waiting l) → length (waiting l) ≡ l.len
unfolding line_of
line-length l e = sym (ap (λ (x : Line). x.len) e ∙ ap length (take_all 15 (waiting l) (line_count l e)))

-- what stands in the columns of identities
lengths_at : (ns : Names) (seat : ℕ) → seat < 16 → get_or (length_octets ns) seat 0 ≡ length (identity.octets_of (name_at ns seat))
unfolding length_octets
lengths_at ns seat k =
    get_d_column (λ s. length (identity.octets_of (name_at ns s))) 0 16 seat 0 k
    ∙ ap (λ (s : ℕ). length (identity.octets_of (name_at ns s))) (zero-add seat)

octet_at_lem : (n : Name) (i : ℕ) → i < 62 → get_or (name_octets n) i 0 ≡ get_or n.octets i 0
unfolding name_octets
octet_at_lem n i k = get_d_column (λ j. get_or n.octets j 0) 0 62 i 0 k ∙ ap (λ (j : ℕ). get_or n.octets j 0) (zero-add i)

-- a name by its octets: sixty_two places, and as many as it says, at most sixty_two
name_places : (n : Name) → n ≡ name_of (identity.octets_of n) → length n.octets ≡ 62
unfolding name_of
name_places n e = ap (λ (x : Name). length x.octets) e ∙ padded-length 0 62 (identity.octets_of n)

name-length : (n : Name) → n ≡ name_of (identity.octets_of n) → length (identity.octets_of n) ≡ n.len
unfolding name_of
name-length n e = sym (ap (λ (x : Name). x.len) e)

pub name_short : (n : Name) → n ≡ name_of (identity.octets_of n) → length (identity.octets_of n) ≤ 62
unfolding identity.octets_of
name_short n e = simp length-take (omega (arith, name_places n e))

-- a piece among others, with all before it and all behind it
among : (l c p w s f z g y n : List ℕ) →
    l ++ c ++ (p ++ w ++ s ++ f ++ z ++ g ++ y) ++ n ≡ (l ++ c ++ p ++ w ++ s ++ f ++ z) ++ (g ++ (y ++ n))
among l c p w s f z g y n = simp append_assoc

module _ (c : Core) (h : Hall) (ns : Names) where
  phase_there : phase_at (octets_of_desk c h ns) ≡ c.phase
  unfolding octets_of_desk core_octets phase_octets octets16 phase_at be16
  phase_there = rw (back16 (cause_in c.phase)) (phase_back c.phase)

  entries_there : entries_at (octets_of_desk c h ns) ≡ column (λ i. get_or c.line.entries i empty) 0 15
  unfolding octets_of_desk core_octets phase_octets octets16 line_octets entries_at column
  entries_there = refl

  pub count_there : get_or (octets_of_desk c h ns) count_place 0 ≡ length (waiting c.line)
  unfolding octets_of_desk core_octets phase_octets octets16 line_octets
  count_there = refl

  sequence_there : be16 (octets_of_desk c h ns) sequence_place ≡ c.sequence
  unfolding octets_of_desk core_octets phase_octets octets16 be16
  sequence_there = back16 c.sequence

  c7_there : get_or (octets_of_desk c h ns) c7_place 0 ≡ c.c7
  unfolding octets_of_desk core_octets phase_octets octets16
  c7_there = refl

  c20_there : get_or (octets_of_desk c h ns) c20_place 0 ≡ c.c20
  unfolding octets_of_desk core_octets phase_octets octets16
  c20_there = refl

  pub core_back : c.line ≡ line_of (waiting c.line) → core_at (octets_of_desk c h ns) ≡ c
  unfolding core_at
  core_back e =
      rw (
        phase_there,
        entries_there,
        column_all c.line.entries 15 empty (line_places c.line e),
        count_there,
        line-length c.line e,
        sequence_there,
        c7_there,
        c20_there,
      )

  present_there : bools_at (octets_of_desk c h ns) taken_column ≡ column (λ i. eqb (one (get_or h.present i false)) 1) 0 16
  unfolding octets_of_desk core_octets phase_octets octets16 line_octets hall_octets bool_octets bools_at column
  present_there = refl

  ssrcs_there : words_at (octets_of_desk c h ns) ssrcs_column
      ≡ column (λ i. let n : ℕ = get_or h.ssrcs i 0 in
      65536 * (256 * (n / 65536 / 256) + n / 65536 % 256) + (256 * (n % 65536 / 256) + n % 65536 % 256)) 0 16
  unfolding octets_of_desk core_octets phase_octets octets16 octets32 line_octets hall_octets bool_octets word_column words_at be16 be32
      column rows
  ssrcs_there = refl

  highest_there : octets_at (octets_of_desk c h ns) highest_column ≡ column (λ i. get_or h.highest i 0) 0 16
  unfolding octets_of_desk core_octets phase_octets octets16 octets32 line_octets hall_octets bool_octets word_column octet_column octets_at
      column rows
  highest_there = refl

  flags_there : seat_flags_at (octets_of_desk c h ns) flags_column ≡ column (λ i. flags_of (flags_octet (get_or h.flags i no_flags))) 0 16
  unfolding octets_of_desk core_octets phase_octets octets16 octets32 line_octets hall_octets bool_octets word_column octet_column
      seat_flags_octets
      seat_flags_at column rows
  flags_there = refl

  -- what stands before the settings, and what behind them
  abbrev before-settings : List ℕ
  before-settings =
      desk_letters ++ core_octets c ++ bool_octets h.present ++ word_column h.ssrcs ++ octet_column h.highest
      ++ seat_flags_octets h.flags
      ++ replicate 16 0

  settings-among : octets_of_desk c h ns ≡ before-settings ++ (settings_octets h.settings ++ (replicate 4 0 ++ names_octets ns))
  unfolding octets_of_desk hall_octets
  settings-among =
      among desk_letters (core_octets c) (bool_octets h.present) (word_column h.ssrcs) (octet_column h.highest)
      (seat_flags_octets h.flags)
      (replicate 16 0) (settings_octets h.settings) (replicate 4 0) (names_octets ns)

  settings-start : settings_start ≡ length before-settings
  unfolding core_octets phase_octets octets16 octets32 line_octets bool_octets word_column octet_column seat_flags_octets column rows
  settings-start = refl

  settings_there : settings_at (octets_of_desk c h ns) ≡ h.settings
  settings_there =
      (settings_back (octets_of_desk c h ns) before-settings (replicate 4 0 ++ names_octets ns) settings_start h.settings settings-among
      settings-start).0

  -- a column of flags, and of numbers, as it was
  bools_were : (bs : List Bool) → length bs ≡ 16 → column (λ i. eqb (one (get_or bs i false)) 1) 0 16 ≡ bs
  bools_were bs l =
      column-same (λ i. eqb (one (get_or bs i false)) 1) (λ i. get_or bs i false) 0 0 16 (λ i k. flag_back (get_or bs (0 + i) false))
      ∙ column_all bs 16 false l

  seat_flags_were : (fs : List Flags) → length fs ≡ 16 → column (λ i. flags_of (flags_octet (get_or fs i no_flags))) 0 16 ≡ fs
  seat_flags_were fs l =
      column-same (λ i. flags_of (flags_octet (get_or fs i no_flags))) (λ i. get_or fs i no_flags) 0 0 16
      (λ i k. flags_back (get_or fs (0 + i) no_flags))
      ∙ column_all fs 16 no_flags l

  words_were : (xs : List ℕ) → length xs ≡ 16 →
      column (λ i. let n : ℕ = get_or xs i 0 in
      65536 * (256 * (n / 65536 / 256) + n / 65536 % 256) + (256 * (n % 65536 / 256) + n % 65536 % 256)) 0 16 ≡ xs
  words_were xs l = column-same _ (λ i. get_or xs i 0) 0 0 16 (λ i k. back32 (get_or xs (0 + i) 0)) ∙ column_all xs 16 0 l

  pub hall_back : (length h.present ≡ 16) × (length h.ssrcs ≡ 16) × (length h.highest ≡ 16) × (length h.flags ≡ 16)
      × (length ns.«of» ≡ 16) →
      hall_at (octets_of_desk c h ns) ≡ h
  unfolding hall_at
  hall_back l =
      rw (
        present_there ∙ bools_were h.present l.0,
        ssrcs_there ∙ words_were h.ssrcs l.1,
        highest_there ∙ column_all h.highest 16 0 l.2,
        flags_there ∙ seat_flags_were h.flags l.3,
        settings_there,
      )

  -- the identities
  names_there : drop lengths_column (octets_of_desk c h ns) ≡ names_octets ns
  unfolding octets_of_desk core_octets phase_octets octets16 octets32 line_octets hall_octets bool_octets word_column octet_column
      seat_flags_octets
      settings_octets column rows
  names_there = refl

  in_names : (i : ℕ) → get_or (octets_of_desk c h ns) (lengths_column + i) 0 ≡ get_or (names_octets ns) i 0
  in_names i = sym (get_or-drop lengths_column (octets_of_desk c h ns) i 0) ∙ ap (λ (l : List ℕ). get_or l i 0) names_there

  length_lengths : length (length_octets ns) ≡ 16
  unfolding length_octets
  length_lengths = length-column (λ s. length (identity.octets_of (name_at ns s))) 0 16

  pub length_there : (seat : ℕ) → seat < 16 →
      get_or (octets_of_desk c h ns) (lengths_column + seat) 0 ≡ length (identity.octets_of (name_at ns seat))
  unfolding names_octets
  length_there seat k =
      in_names seat ∙ get_or-append (length_octets ns) (rows (λ s. name_octets (name_at ns s)) 0 16) 0 seat (omega (arith, length_lengths))
      ∙ lengths_at ns seat k

  name_there : (seat i : ℕ) → seat < 16 → i < 62 →
      get_or (octets_of_desk c h ns) (identities_column + 62 * seat + i) 0 ≡ get_or (name_at ns seat).octets i 0
  unfolding names_octets
  name_there seat i k b =
      let e : identities_column + 62 * seat + i ≡ lengths_column + (length (length_octets ns) + (62 * seat + i)) =
      omega (arith, length_lengths) in
      ap (λ (j : ℕ). get_or (octets_of_desk c h ns) j 0) e ∙ in_names (length (length_octets ns) + (62 * seat + i))
      ∙ get_or-append-add (length_octets ns) (rows (λ s. name_octets (name_at ns s)) 0 16) (62 * seat + i) 0
      ∙ get_d_rows (λ s. name_octets (name_at ns s)) 62 0 16 seat i 0 (λ j. length-name (name_at ns j)) k b
      ∙ ap (λ (j : ℕ). get_or (name_octets (name_at ns j)) i 0) (zero-add seat) ∙ octet_at_lem (name_at ns seat) i b

  names_back : length ns.«of» ≡ 16 → ((s : ℕ) → name_at ns s ≡ name_of (identity.octets_of (name_at ns s))) →
      names_at (octets_of_desk c h ns) ≡ ns
  unfolding names_at name_in
  names_back l e =
      let each : (seat : ℕ) → seat < 16 → get_or ns.«of» seat no_name ≡ name_in (octets_of_desk c h ns) seat =
      λ seat k.
      let o : (name_at ns seat).octets ≡ column (nth_octet (octets_of_desk c h ns)) (identities_column + 62 * seat) 62 =
      column_is (nth_octet (octets_of_desk c h ns)) (name_at ns seat).octets (identities_column + 62 * seat) 62 0
      (name_places (name_at ns seat) (e seat))
      (λ i b. sym (name_there seat i k b)) in
      let n : (name_at ns seat).len ≡ nth_octet (octets_of_desk c h ns) (lengths_column + seat) =
      sym (length_there seat k ∙ name-length (name_at ns seat) (e seat)) in
      rw (← o, ← n) in
      let all : column (name_in (octets_of_desk c h ns)) 0 16 ≡ ns.«of» =
      sym (column_is_from_0 (name_in (octets_of_desk c h ns)) ns.«of» 16 no_name l each) in
      rw all

  pub stands : Shaped c h ns → StandsFor (octets_of_desk c h ns) c h ns
  stands s = record { core = core_back s.line; hall = hall_back s.columns; names = names_back s.columns.4 s.behind }
