-- A chain of tests, `a && b && ..`, as the code goes through it: each test is asked only where those before it held. Assumes nothing.
use mathlib.Core.Bool.{Bool, true, false, ◌&&◌}
use mathlib.Core.Path.{◌≡◌}

-- x is a, and held; y, which is b, was asked next
pub and_yes : {a b x y : Bool} → x ≡ a → x ≡ true → y ≡ b → y ≡ (a && b)
and_yes e t q = rw (← e, t) q

-- x is a, and failed; nothing more was asked
pub and_no : {a x : Bool} (b : Bool) → x ≡ a → x ≡ false → x ≡ (a && b)
and_no b e t = rw (← e, t)
