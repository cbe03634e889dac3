-- `when test then a else b`, so that a rule of document 01 reads in its own order: `when .. then .. else when .. then .. else ..`.
-- Below it stand the laws by which a proof takes a choice apart. Assumes nothing.
use Rattle.std.specs.Prelude.{ℕ, Bool, true, false, ◌≡◌, refl}

infixr 10 when◌then◌else◌
unfoldable pub when◌then◌else◌ {ℓ} : {A : Type ℓ} → Bool → A → A → A
when true then a else b = a
when false then a else b = b

-- a test counted: 1 where it holds
abbrev pub one : Bool → ℕ
one true = 1
one false = 0

-- what the choice is where its test holds, and where it does not
pub if_yes {ℓ} : {A : Type ℓ} (t : Bool) (a b : A) → t ≡ true → (when t then a else b) ≡ a
unfolding when◌then◌else◌
if_yes t a b e = rw e

pub if_no {ℓ} : {A : Type ℓ} (t : Bool) (a b : A) → t ≡ false → (when t then a else b) ≡ b
unfolding when◌then◌else◌
if_no t a b e = rw e

-- a proof by the two cases of a test, each with its equation
pub by_test {ℓ} : {P : Type ℓ} (t : Bool) → (t ≡ true → P) → (t ≡ false → P) → P
by_test true f g = f refl
by_test false f g = g refl

-- what holds of both values, each where its test is so, holds of the choice
pub by_if {ℓ ℓ'} : {A : Type ℓ} (P : A → Type ℓ') (t : Bool) {a b : A} → (t ≡ true → P a) → (t ≡ false → P b) → P (when t then a else b)
unfolding when◌then◌else◌
by_if P true f g = f refl
by_if P false f g = g refl
