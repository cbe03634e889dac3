-- Nothing is lost: from a sheet its seats and its settings are read again. Assumes nothing.
use Rattle.std.proofs.Common.{ℕ, List, Some, ◌≡◌, sym, ap, ◌∙◌}
use Rattle.hall.specs.declared.Settings.{Settings}
use Rattle.sheet.specs.Layout.{Seat, seats_of, sheet, sheet_of}
use Rattle.sheet.specs.Framing.{seat_count}
use Rattle.loading.specs.Loading.{settings_on, read_seats}
use Rattle.sheet_laws.specs.Sheets.{SameSheet, Lossless}
use Rattle.sheet_laws.proofs.Read.{seats_again, settings_read}
use Rattle.sheet_laws.proofs.Saved.{written}

some_same : (xs ys : List Seat) → Some xs ≡ Some ys → xs ≡ ys
some_same xs ys e = cc

same-sheet : (xs ys : List Seat) (st tt : Settings) → sheet xs st ≡ sheet ys tt → SameSheet xs ys st tt
same-sheet xs ys st tt e =
    record {
      seats =
          some_same xs ys
          (sym (seats_again xs st) ∙ ap (λ (s : List ℕ). read_seats (seat_count s) s 0) e ∙ seats_again ys tt);
      settings = sym (settings_read xs st) ∙ ap settings_on e ∙ settings_read ys tt;
    }

pub lossless : Lossless
unfolding sheet_of
lossless g h ms ns p q y z e =
    same-sheet (seats_of g ms) (seats_of h ns) g.settings h.settings (sym (written g ms p y) ∙ e ∙ written h ns q z)
