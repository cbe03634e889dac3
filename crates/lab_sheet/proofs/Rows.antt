-- A row more is passed over. Assumes nothing.
use Rattle.std.proofs.Common.{◌≡◌, ◌∙◌, ap, ℕ, ◌+◌, ◌-◌, ◌<◌, ◌≤◌, min, List, length, get_or, take, arith}
use Rattle.std.proofs.lemmas.List.Sums.{sum_by_more, sum_by-take-le}
use Rattle.lab_sheet.specs.declared.Row.{Row}
use Rattle.lab_sheet.specs.Rows.{row_width, rows_width}

module _ (rows : List Row) (i : ℕ) (d row : Row) (there : i < length rows) (this : get_or rows i d ≡ row) where
  row_more : rows_width (take (i + 1) rows) ≡ rows_width (take i rows) + row_width row
  row_more = sum_by_more row_width rows i d there ∙ ap (λ r. rows_width (take i rows) + row_width r) this

  -- behind it stands what is behind the rows with it, where so many octets hold all rows
  pub row_passed : (from at end : ℕ) → from + rows_width rows ≤ end → at ≡ from + rows_width (take i rows)
      → at + min (row_width row) (end - at) ≡ from + rows_width (take (i + 1) rows)
  row_passed from at end h e = omega (arith, row_more, sum_by-take-le row_width rows (i + 1))
