-- Tests joined by `&&` and by `||`, taken apart and put together. Assumes nothing.
use Prim.Native.Nat.{ℕ}
use mathlib.Core.Path.{◌≡◌, refl}
use mathlib.Core.Bool.{Bool, true, false, ◌&&◌, ◌||◌}
use native.Mathlib.Omega.{arith}
use Rattle.words.specs.Below.{and_left, and_right}

-- no test both holds and fails
pub clash {ℓ} : {A : Type ℓ} {b : Bool} → b ≡ true → b ≡ false → A
clash p q = let z : ◌≡◌ {A = ℕ} 0 1 = cc in absurd (omega arith)

-- an `&&` of two to five tests: each holds where it does, and it holds where each does
pub and_both : (p q : Bool) → (p && q) ≡ true → (p ≡ true) × (q ≡ true)
and_both p q e = (and_left p q e, and_right p q e)

pub and_three : (p q r : Bool) → (p && q && r) ≡ true → (p ≡ true) × (q ≡ true) × (r ≡ true)
and_three p q r e = let a = and_both (p && q) r e in let b = and_both p q a.0 in (b.0, b.1, a.1)

pub and_four : (p q r s : Bool) → (p && q && r && s) ≡ true → (p ≡ true) × (q ≡ true) × (r ≡ true) × (s ≡ true)
and_four p q r s e = let a = and_both (p && q && r) s e in let b = and_three p q r a.0 in (b.0, b.1, b.2, a.1)

pub and_five : (p q r s t : Bool) → (p && q && r && s && t) ≡ true → (p ≡ true) × (q ≡ true) × (r ≡ true) × (s ≡ true) × (t ≡ true)
and_five p q r s t e = let a = and_both (p && q && r && s) t e in let b = and_four p q r s a.0 in (b.0, b.1, b.2, b.3, a.1)

pub both : (p q : Bool) → p ≡ true → q ≡ true → (p && q) ≡ true
both p q a b = rw (a, b)

pub three : (p q r : Bool) → p ≡ true → q ≡ true → r ≡ true → (p && q && r) ≡ true
three p q r a b c = rw (a, b, c)

pub four : (p q r s : Bool) → p ≡ true → q ≡ true → r ≡ true → s ≡ true → (p && q && r && s) ≡ true
four p q r s a b c d = rw (a, b, c, d)

pub five : (p q r s t : Bool) → p ≡ true → q ≡ true → r ≡ true → s ≡ true → t ≡ true → (p && q && r && s && t) ≡ true
five p q r s t a b c d e = rw (a, b, c, d, e)

-- it fails where its second test does
pub and_no : (p q : Bool) → q ≡ false → (p && q) ≡ false
and_no true q e = e
and_no false q e = refl

-- an `||` holds where one of its tests does, and the second where the first fails
pub or_left : (p q : Bool) → p ≡ true → (p || q) ≡ true
or_left p q e = rw e

pub or_right : (p q : Bool) → q ≡ true → (p || q) ≡ true
or_right true q e = refl
or_right false q e = e

pub or_else : (p q : Bool) → p ≡ false → (p || q) ≡ true → q ≡ true
or_else true q f e = clash refl f
or_else false q f e = e

-- and it fails where both do
pub neither : (p q : Bool) → p ≡ false → q ≡ false → (p || q) ≡ false
neither p q e f = rw (e, f)

pub neither_left : (p q : Bool) → (p || q) ≡ false → p ≡ false
neither_left true q e = e
neither_left false q e = refl

pub neither_right : (p q : Bool) → (p || q) ≡ false → q ≡ false
neither_right true q e = clash refl e
neither_right false q e = e
