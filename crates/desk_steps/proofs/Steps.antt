-- What a step on lent octets leaves, a law for each way it can end. Assumes nothing.
use Rattle.words.specs.Choice.{when◌then◌else◌, by_test}
use borrow.Author.Tests.{eqb-true, leb-true}
use Prim.Native.Nat.{ℕ, ◌≤◌}
use mathlib.Core.Path.{◌≡◌}
use mathlib.Core.Bool.{true, false}
use mathlib.Core.List.{List}
use lib.Dec.{eqb, leb}
use lib.IntN.{ℤ}
use lib.ListN.{length}
use Rattle.octets.specs.Octets.{over}
use Rattle.desk_test.specs.Lent.{formed}
use Rattle.desk_steps.specs.Steps.{step_leaves, refusal, finished, settles}
use Rattle.report_octets.specs.Places.{report_size}

-- an answer is handed on
pub same_leaves : {a b : ℤ} {d r : List ℕ} → a ≡ b → step_leaves a d r ≡ step_leaves b d r
same_leaves {d = d} {r = r} p = λ i. step_leaves (p i) d r

module _ (d : List ℕ) (q : formed d ≡ true) where
  module _ (r : List ℕ) (n : ℕ) (desk report : List ℕ) where
    pub refused_so : eqb n 0 ≡ false → settles d r n desk report ≡ refusal n d r
    unfolding settles when◌then◌else◌
    refused_so e = rw (q, e)

    pub no_room_so : eqb n 0 ≡ true → leb report_size (length r) ≡ false → settles d r n desk report ≡ refusal 13 d r
    unfolding settles when◌then◌else◌
    no_room_so e l = rw (q, e, l)

    pub done_so : eqb n 0 ≡ true → leb report_size (length r) ≡ true → settles d r n desk report ≡ finished desk (over r 0 report)
    unfolding settles when◌then◌else◌
    done_so e l = rw (q, e, l)

pub no_desk_so : (d r : List ℕ) (n : ℕ) (desk report : List ℕ) → formed d ≡ false → settles d r n desk report ≡ refusal 20 d r
unfolding settles when◌then◌else◌
no_desk_so d r n desk report q = rw q

-- what would be written counts only where it is
pub settles_by : (d r : List ℕ) (n : ℕ) (desk desk' report : List ℕ) → (n ≡ 0 → report_size ≤ length r → desk ≡ desk') →
    settles d r n desk report ≡ settles d r n desk' report
unfolding settles when◌then◌else◌
settles_by d r n desk desk' report w =
    by_test (formed d)
    (λ q. by_test (eqb n 0)
    (λ e. by_test (leb report_size (length r))
    (λ l. rw (q, e, l, w (eqb-true n 0 e) (leb-true report_size (length r) l)))
    (λ l. rw (q, e, l)))
    (λ e. rw (q, e)))
    (λ q. rw q)
