-- The answers (document 01, "What is answered to packets"; 14: document 02, #107): the number of each refusal, and an answer as the paper
-- has it, a refusal's number or a result. Assumes nothing.
use Rattle.std.specs.Prelude.{ℕ, Result, Ok, Err}
use Rattle.message.specs.declared.Refusal.{Refusal}
use Rattle.message.specs.declared.Refusal.TheVariants.{TooShort, TooLong, NotVersion2, Padded, NotApplication, WrongLength, NotNamed}
use Rattle.message.specs.declared.Refusal.TheVariants.{UnlistedType, PastTheEnd, AgainstTheTable, Missing, Unreadable, NoRoom}
use Rattle.message.specs.declared.Refusal.TheVariants.{Repeated}

pub data Answer (A : Type 0) : Type 0 where
  refused : ℕ → Answer A
  result : A → Answer A

abbrev pub refusal_number : Refusal → ℕ
refusal_number TooShort = 1
refusal_number TooLong = 2
refusal_number NotVersion2 = 3
refusal_number Padded = 4
refusal_number NotApplication = 5
refusal_number WrongLength = 6
refusal_number NotNamed = 7
refusal_number UnlistedType = 8
refusal_number PastTheEnd = 9
refusal_number AgainstTheTable = 10
refusal_number Missing = 11
refusal_number Unreadable = 12
refusal_number NoRoom = 13
refusal_number Repeated = 14

-- the code's answer in the paper's numbers
abbrev pub in_numbers : {A : Type 0} → Result A Refusal → Answer A
in_numbers (Ok a) = result a
in_numbers (Err r) = refused (refusal_number r)
