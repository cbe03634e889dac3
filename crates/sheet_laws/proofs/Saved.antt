-- What a sheet that was saved is: the one place of these laws that knows why saving refuses. Assumes nothing.
use Rattle.std.proofs.Common.{ℕ, ◌+◌, ◌≤◌, List, ◌≡◌, Result, Ok, IsOk, IfOk, length, take, drop, arith}
use Rattle.std.proofs.lemmas.Bool.Decides.{nat_tests}
use lib.Seq.{take-append_seam}
use Rattle.words.specs.Choice.{when◌then◌else◌, by_if}
use Rattle.octets.specs.Octets.{over}
use Rattle.hall.specs.declared.Hall.{Hall}
use Rattle.identities.specs.declared.Names.{Names}
use Rattle.sheet.specs.Layout.{sheet_of}
use Rattle.saving.specs.declared.Refusal.{Refusal}
use Rattle.saving.specs.Saving.{cannot_hold, too_short, saving, written_by}
use Rattle.saving.proofs.Saves.{saves_whole, room_written}

first_over : (room xs : List ℕ) → take (length xs) (over room 0 xs) ≡ xs
unfolding over
first_over room xs = take-append_seam xs (drop (0 + length xs) room)

module _ (h : Hall) (ns : Names) (room : List ℕ) where
  -- level 0, and a room that is long enough
  pub saves : h.settings.normal ≡ 0 → length (sheet_of h ns) ≤ length room → IsOk (saving h ns room)
  saves e f = rw (saves_whole h ns room e f)

  -- what holds of the sheet's length holds of what saving answers, unless it refuses
  pub if_saved : (P : ℕ → Type 0) → P (length (sheet_of h ns)) → IfOk (saving h ns room) P
  unfolding saving
  if_saved P p =
      let Q : Result ℕ Refusal → Type 0 = λ r. IfOk r P in
      by_if Q (cannot_hold h) (λ _. tt) (λ _. by_if Q (too_short h ns room) (λ _. tt) (λ _. p))

  -- what is saved is at level 0, and fits
  module _ (z : IsOk (saving h ns room)) where
    pub level_0 : h.settings.normal ≡ 0
    unfolding saving when◌then◌else◌
    level_0 = grind (arith, nat_tests)

    pub fits : length (sheet_of h ns) ≤ length room
    unfolding saving when◌then◌else◌
    fits = grind (arith, nat_tests)

    pub length-written : saving h ns room ≡ Ok (length (sheet_of h ns))
    length-written = saves_whole h ns room level_0 fits

    pub written : written_by h ns room ≡ sheet_of h ns
    unfolding written_by
    written = rw (length-written, room_written h ns room level_0 fits) (first_over room (sheet_of h ns))
