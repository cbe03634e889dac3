-- A refusal has a number of its own: by its number it is known. Assumes nothing.
use Prim.Native.Nat.{ℕ}
use native.Mathlib.Omega.{arith}
use mathlib.Core.List.{List, [], ◌∷◌}
use mathlib.Core.Path.{◌≡◌, refl, sym, ap, ◌∙◌}
use lib.ListN.{get_or}
use Rattle.std.specs.Prelude.{Result, Ok, Err}
use Rattle.message.specs.Answers.{Answer, refused, result, refusal_number, in_numbers}
use Rattle.message.specs.declared.Refusal.{Refusal}
use Rattle.message.specs.declared.Refusal.TheVariants.{TooShort, TooLong, NotVersion2, Padded, NotApplication, WrongLength, NotNamed}
use Rattle.message.specs.declared.Refusal.TheVariants.{UnlistedType, PastTheEnd, AgainstTheTable, Missing, Unreadable, NoRoom}
use Rattle.message.specs.declared.Refusal.TheVariants.{Repeated}

-- the refusal that each number names, from 1 on; 0 names none
abbrev refusals : List Refusal
refusals =
    TooShort ∷ TooShort ∷ TooLong ∷ NotVersion2 ∷ Padded ∷ NotApplication ∷ WrongLength ∷ NotNamed ∷ UnlistedType ∷ PastTheEnd
    ∷ AgainstTheTable ∷ Missing ∷ Unreadable ∷ NoRoom ∷ Repeated ∷ []

named : (r : Refusal) → get_or refusals (refusal_number r) TooShort ≡ r
named TooShort = refl
named TooLong = refl
named NotVersion2 = refl
named Padded = refl
named NotApplication = refl
named WrongLength = refl
named NotNamed = refl
named UnlistedType = refl
named PastTheEnd = refl
named AgainstTheTable = refl
named Missing = refl
named Unreadable = refl
named NoRoom = refl
named Repeated = refl

pub number_one : (a b : Refusal) → refusal_number a ≡ refusal_number b → a ≡ b
number_one a b e = sym (named a) ∙ ap (λ n. get_or refusals n TooShort) e ∙ named b

-- no refusal is a result
pub never : {A P : Type 0} {n : ℕ} {a : A} → refused n ≡ result a → P
never e = let z : ◌≡◌ {A = ℕ} 0 1 = cc in absurd (omega arith)

-- the same of two answers that are refusals
pub refusal-one : {A : Type 0} (a b : Refusal) → ◌≡◌ {A = Answer A} (refused (refusal_number a)) (refused (refusal_number b)) → a ≡ b
refusal-one a b e = number_one a b (cc)

-- answers that say the same in the paper's numbers are one answer
pub told_one : {A : Type 0} (a b : Result A Refusal) → in_numbers a ≡ in_numbers b → a ≡ b
told_one (Ok x) (Ok y) e = ap Ok (cc)
told_one (Ok x) (Err r) e = cc
told_one (Err r) (Ok y) e = cc
told_one (Err r) (Err q) e = ap Err (refusal-one r q e)
