-- What becomes of the floor when it ends, by whether anyone waits. Assumes nothing.
use mathlib.Core.Path.{◌≡◌, refl}
use mathlib.Core.List.{List, [], ◌∷◌}
use native.Mathlib.Omega.{arith}
use lib.ListN.{length, get_or}
use Rattle.line.specs.declared.Entry.{Entry}
use Rattle.line.specs.Line.{line_of, without, empty}
use Rattle.hall.specs.declared.Hall.{Hall}
use Rattle.hall.specs.Seats.{only}
use Rattle.steps.specs.declared.Core.{Core}
use Rattle.steps.specs.Words.{◌with_line◌}
use Rattle.giving.specs.Floor.{passes_on, enters_idle, given_out_of_line}

module _ (c : Core) (h : Hall) where
  pub passes_none : (es : List Entry) → length es ≡ 0 → passes_on c h es ≡ enters_idle c h
  unfolding passes_on
  passes_none [] e = refl
  passes_none (x ∷ es) e = absurd (omega arith)

  pub passes_head : (es : List Entry) → (length es ≡ 0 → ⊥) →
      passes_on c h es ≡ given_out_of_line (c with_line line_of (without (only (get_or es 0 empty).seat) es)) h (get_or es 0 empty)
  unfolding passes_on
  passes_head [] n = absurd (n refl)
  passes_head (x ∷ es) n = refl
