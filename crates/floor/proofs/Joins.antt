-- Who may not join has a refusal whose number is not 0. Assumes nothing.
use Rattle.std.proofs.Common.{◌≡◌, refl, ℕ, false, List, eqb}
use Rattle.std.specs.Prelude.{not, Option, None, Some, is_some, Err}
use Rattle.words.specs.Choice.{by_if}
use Rattle.hall.specs.declared.Refusal.{Refusal}
use Rattle.hall.specs.declared.Refusal.TheVariants.{AllSeatsTaken, IdentityLength, IdentityPresent, SsrcPresent}
use Rattle.hall.specs.declared.Hall.{Hall}
use Rattle.hall.specs.declared.Newcomer.{Newcomer}
use Rattle.hall.specs.Answers.{DeskAnswer, desk_refusal_number}
use Rattle.hall.specs.Seats.{free_seat}
use Rattle.identities.specs.declared.Names.{Names}
use Rattle.identities.specs.Identity.{seat_named, length_allowed}
use Rattle.joining.specs.declared.Joined.{Joined}
use Rattle.joining.specs.Join.{ssrc_taken, seated, join}

abbrev NotZero : Joined → Type 0
NotZero j = (r : Refusal) → j.answer ≡ Err r → eqb (desk_refusal_number r) 0 ≡ false

same_refusal : (r s : Refusal) → eqb (desk_refusal_number r) 0 ≡ false → ◌≡◌ {A = DeskAnswer} (Err r) (Err s) →
    eqb (desk_refusal_number s) 0 ≡ false
same_refusal r s n e = let z : r ≡ s = cc in rw (← z) n

seats : (h : Hall) (ns : Names) (o : List ℕ) (n : Newcomer) (s : Option ℕ) → NotZero (seated h ns o n s)
unfolding seated
seats h ns o n None r e = same_refusal AllSeatsTaken r refl e
seats h ns o n (Some s) r e = cc

pub join_refuses : (h : Hall) (ns : Names) (o : List ℕ) (n : Newcomer) → NotZero (join h ns o n)
unfolding join
join_refuses h ns o n =
    by_if NotZero (not (length_allowed o)) (λ _ r e. same_refusal IdentityLength r refl e)
    (λ _. by_if NotZero (is_some (seat_named h ns o)) (λ _ r e. same_refusal IdentityPresent r refl e)
    (λ _. by_if NotZero (ssrc_taken h n.ssrc) (λ _ r e. same_refusal SsrcPresent r refl e)
    (λ _. seats h ns o n (free_seat h))))
