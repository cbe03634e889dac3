-- No promise leaves a choice: each is an equation for the answer. Assumes nothing.
use Rattle.std.proofs.Common.{sym, ◌∙◌}
use Rattle.sheet_laws.specs.Sheets.{LoadingsCoincide, SavingsCoincide}

pub loadings_coincide : LoadingsCoincide
loadings_coincide s a b e f = e ∙ sym f

pub savings_coincide : SavingsCoincide
savings_coincide h ns room a b e f = e ∙ sym f
