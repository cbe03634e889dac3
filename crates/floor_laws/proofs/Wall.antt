-- The wall screen of C programs answers as the crate `screen` does. Assumes nothing.
use Prim.Native.Nat.{◌*◌, ◌/◌, ◌≤◌}
use native.Mathlib.Omega.{arith}
use lib.Dec.{leb}
use lib.ListN.{length}
use borrow.Author.Tests.{leb-true, leb-false, le-leb, lt-leb}
use Rattle.words.specs.Choice.{when◌then◌else◌, by_test}
use Rattle.screen.specs.Screen.{list_answer}
use Rattle.desk_looking.specs.Looking.{screened}
use Rattle.floor_laws.specs.Kept.{OneScreen}

pub one_screen : OneScreen
unfolding screened list_answer when◌then◌else◌
one_screen es room =
    let n = length es in
    let m = length room in
    by_test (leb (2 * n) m)
    (λ e. let l : n ≤ m / 2 = omega (arith, leb-true (2 * n) m e) in rw (e, le-leb n (m / 2) l))
    (λ e. let g = leb-false (2 * n) m e in rw (e, lt-leb n (m / 2) (omega (arith, g))))
