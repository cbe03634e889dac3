-- An answer as C programs are told it (document 01 gives every refusal a number, from 1 on): 0 or more for what is done, minus the number
-- of a refusal for what is not. Every exported function answers so. Assumes nothing.
use Rattle.std.specs.Prelude.{ℕ, Bool, true, false, List, ◌≡◌, eqb, ℤ, pos, negsuc, neg_ℤ}
use Rattle.words.specs.Choice.{when◌then◌else◌}
use Rattle.message.specs.Answers.{Answer, refused, result}

-- a number of the paper: 0 for what is done, which stays 0, or that of a refusal
abbrev pub told_as : ℕ → ℤ
told_as n = neg_ℤ (pos n)

abbrev pub signed : Answer ℕ → ℤ
signed (result n) = pos n
signed (refused n) = told_as n

-- what is refused is told as a number that it may have
abbrev pub RefusedBy : (ℕ → Type 0) → ℤ → Type 0
RefusedBy may z = (n : ℕ) × may n × (z ≡ told_as n)

-- the answer by a number of the paper, n, where k is answered to what is done
abbrev pub by_number : (n k : ℕ) → Answer ℕ
by_number n k = when eqb n 0 then result k else refused n

-- an answer, and what is left in the lent room
abbrev pub answers : Answer ℕ → List ℕ → ℤ × List ℕ
answers a room = (signed a, room)

-- what an answer tells of a call: it was done, or it was refused
abbrev pub is_done : ℤ → Bool
is_done (pos n) = true
is_done (negsuc n) = false

abbrev pub Succeeds : ℤ → Type 0
Succeeds answer = is_done answer ≡ true

abbrev pub Refuses : ℤ → Type 0
Refuses answer = is_done answer ≡ false
