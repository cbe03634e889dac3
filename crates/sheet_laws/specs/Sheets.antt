-- What a sheet keeps (document 01, "The sheet"): what is saved loads, what loads is written back octet for octet, and nothing is lost; and
-- which desks can be saved (document 02, #101). All of it is said of what saving answers and has written, in any room. Each statement here
-- is proved in proofs/, in the file named beside it. Assumes nothing.
use Rattle.std.specs.Prelude.{ℕ, ◌≤◌, ◌<◌, List, Result, Ok, Err, IsOk, IfOk, ◌≡◌, ltb, length}
use Rattle.octets.specs.Octets.{Octets}
use Rattle.hall.specs.declared.Settings.{Settings}
use Rattle.hall.specs.declared.Hall.{Hall}
use Rattle.hall.specs.Seats.{is_present}
use Rattle.identities.specs.declared.Names.{Names}
use Rattle.events.specs.declared.Desk.{Desk}
use Rattle.events.specs.Events.{fresh}
use Rattle.history.specs.Doing.{Doing, Fresh, after_all}
use Rattle.reach.specs.Sound.{SeatsOk}
use Rattle.sheet.specs.Layout.{Seat, seats_of, longest_sheet}
use Rattle.saving.specs.declared.Refusal as save
use Rattle.saving.specs.declared.Refusal.TheVariants.{CannotHold}
use Rattle.saving.specs.Saving.{saving, room_after, written_by, Saves}
use Rattle.sheet.specs.declared.Refusal as load
use Rattle.loading.specs.Loading.{loading, Loads}

-- a fresh desk with these seats, numbered from 0 in this order, and these settings
pub record IsDesk (d : Desk) (xs : List Seat) (st : Settings) : Type 0 where
  pub is_fresh : d.core ≡ fresh
  pub settings : d.hall.settings ≡ st
  pub seats : seats_of d.hall d.names ≡ xs
  pub numbered : (s : ℕ) → s < 16 → is_present d.hall s ≡ ltb s (length xs)

-- a sheet that is accepted, and loads as such a desk
pub record LoadsAs (s : List ℕ) (xs : List Seat) (st : Settings) : Type 0 where
  pub desk : Desk
  pub accepted : loading s ≡ Ok desk
  pub is : IsDesk desk xs st

-- A saved sheet loads (proofs/Back), and gives the same settings and the same seats in order: of any seats and settings that are in order,
-- and so "from any desk" that steps can reach from a fresh one.
abbrev pub SavedLoads : Type 0
SavedLoads = (h : Hall) (ns : Names) (room : List ℕ) → SeatsOk h ns → IsOk (saving h ns room) →
    LoadsAs (written_by h ns room) (seats_of h ns) h.settings

abbrev pub SavedFromAny : Type 0
SavedFromAny = (start : Desk) → Fresh start → (xs : List Doing) (room : List ℕ) →
    let d = after_all start xs in
    IsOk (saving d.hall d.names room) → LoadsAs (written_by d.hall d.names room) (seats_of d.hall d.names) d.hall.settings

-- Which desks can be saved (proofs/Savable): at normal level 0 each one, given room for the longest sheet, and what was saved loads again;
-- "48, on saving at another level, before 13": at another each one gets 48, in whatever room, and nothing is written; and 48 comes of
-- nothing else.
pub record SavedOr48 (d : Desk) (room : List ℕ) : Type 0 where
  pub saved : d.hall.settings.normal ≡ 0 → longest_sheet ≤ length room →
      IsOk (saving d.hall d.names room) × LoadsAs (written_by d.hall d.names room) (seats_of d.hall d.names) d.hall.settings
  pub not48 : d.hall.settings.normal ≡ 0 → saving d.hall d.names room ≡ Err CannotHold → ⊥
  pub other : (d.hall.settings.normal ≡ 0 → ⊥) →
      (saving d.hall d.names room ≡ Err CannotHold) × (room_after d.hall d.names room ≡ room)

abbrev pub EitherSavedOr48 : Type 0
EitherSavedOr48 = (start : Desk) → Fresh start → (xs : List Doing) (room : List ℕ) → SavedOr48 (after_all start xs) room

-- "A form 1 sheet loads with level 0" (proofs/Again)
abbrev pub LoadsAtLevel0 : Type 0
LoadsAtLevel0 = (s : List ℕ) (d : Desk) → Octets s → loading s ≡ Ok d → d.hall.settings.normal ≡ 0

-- "an accepted sheet is written back octet for octet" (proofs/Again); each is an octet, so below 256
pub record SheetWrittenAgain (s room : List ℕ) (d : Desk) : Type 0 where
  pub done : length s ≤ length room → IsOk (saving d.hall d.names room)
  pub octets : IsOk (saving d.hall d.names room) → written_by d.hall d.names room ≡ s

abbrev pub WrittenBack : Type 0
WrittenBack = (s room : List ℕ) (d : Desk) → Octets s → loading s ≡ Ok d → SheetWrittenAgain s room d

-- Nothing is lost (proofs/Lossless): where two sheets are the same, so are the seats in order and the settings, of any desks whatever.
pub record SameSheet (xs ys : List Seat) (st tt : Settings) : Type 0 where
  pub seats : xs ≡ ys
  pub settings : st ≡ tt

abbrev pub Lossless : Type 0
Lossless = (g h : Hall) (ms ns : Names) (p q : List ℕ) → IsOk (saving g ms p) → IsOk (saving h ns q) →
    written_by g ms p ≡ written_by h ns q → SameSheet (seats_of g ms) (seats_of h ns) g.settings h.settings

-- The shortest sheet has 20 octets, and the longest 1,124 (proofs/Lengths); at level 0 a room as long as that is enough.
pub record Lengths (h : Hall) (ns : Names) (room : List ℕ) : Type 0 where
  pub shortest : IfOk (saving h ns room) (λ n. 20 ≤ n)
  pub longest : SeatsOk h ns → IfOk (saving h ns room) (λ n. n ≤ longest_sheet)
  pub enough : SeatsOk h ns → h.settings.normal ≡ 0 → longest_sheet ≤ length room → IsOk (saving h ns room)

abbrev pub AllLengths : Type 0
AllLengths = (h : Hall) (ns : Names) (room : List ℕ) → Lengths h ns room

-- No promise leaves a choice (proofs/Coincide): two answers that `loading::load` or `saving::save` may give are the same answer.
abbrev pub LoadingsCoincide : Type 0
LoadingsCoincide = (s : List ℕ) (a b : Result Desk load.Refusal) → Loads s a → Loads s b → a ≡ b

abbrev pub SavingsCoincide : Type 0
SavingsCoincide = (h : Hall) (ns : Names) (room : List ℕ) (a b : Result ℕ save.Refusal) → Saves h ns room a → Saves h ns room b → a ≡ b
