-- `desk_making::write_desk` keeps its promise, `(result, desk.new) ≡ desk_written desk.old n done core hall names`. Assumes nothing.
use Rattle.signed.proofs.Signed.{passed, numbered, pair_same}
use Rattle.desk_making.proofs.Making.{unwritten, too_short, written_so}
use borrow.Author.Tests.{ne_eqb, eq-eqb, lt-leb, le-leb}
use mathlib.Core.Path.{refl, sym, ap, ◌∙◌}
use lib.IntN.{pos}
use Rattle.desk_making.proofs.write_desk.Goals as goal

pub returns-then-n-ne0 : goal.returns-then-n-ne0
returns-then-n-ne0 c =
    pair_same (passed c.refusal.type_inv ∙ c.refusal.ensures) refl ∙ sym (unwritten _ _ _ _ _ _ (ne_eqb _ _ c.if-n-ne0.true))

pub returns-then-desk-lt-DESK_SIZE : goal.returns-then-desk-lt-DESK_SIZE
returns-then-desk-lt-DESK_SIZE c =
    pair_same (passed c.refused.type_inv ∙ numbered c.refused.ensures) refl
    ∙ sym (too_short _ _ _ _ _ _ (eq-eqb _ _ c.if-n-ne0.false) (lt-leb _ _ c.if-desk-lt-DESK_SIZE.true))

pub returns : goal.returns
returns c =
    pair_same (passed c.found.type_inv ∙ c.found.ensures ∙ ap pos c.from.ensures) c.put_desk.ensures
    ∙ sym (written_so _ _ _ _ _ _ (eq-eqb _ _ c.if-n-ne0.false) (le-leb _ _ c.if-desk-lt-DESK_SIZE.false))
