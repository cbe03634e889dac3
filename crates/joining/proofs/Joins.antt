-- Every join goes one of the ways of specs/Joins. Assumes nothing.
use Prim.Native.Nat.{ℕ}
use mathlib.Core.Path.{◌≡◌, refl}
use mathlib.Core.Bool.{not}
use mathlib.Core.List.{List}
use native.Mathlib.Omega.{arith}
use borrow.Author.Tests.{not-true}
use Rattle.words.specs.Choice.{when◌then◌else◌, by_test}
use Rattle.hall.specs.declared.Refusal.TheVariants.{AllSeatsTaken, IdentityLength, IdentityPresent, SsrcPresent}
use Rattle.std.specs.Prelude.{Option, Some, None, is_some}
use Rattle.hall.specs.declared.Hall.{Hall}
use Rattle.identities.specs.declared.Names.{Names}
use Rattle.hall.specs.declared.Newcomer.{Newcomer}
use Rattle.hall.specs.Seats.{is_present, free_seat}
use Rattle.identities.specs.Identity.{seat_named, length_allowed}
use Rattle.joining.specs.Join.{ssrc_taken, seated, join}
use Rattle.joining.specs.Joins.{Passes, Joins, turned_away, sits_down, EveryJoin}
use Rattle.hall.proofs.Laws.{found_holds}

-- what the search looks into at each of the functions
unfoldable pub joining : Type 0
unfolding join seated ssrc_taken when◌then◌else◌
joining = ℕ

module _ (h : Hall) (ns : Names) (o : List ℕ) (n : Newcomer) where
  -- a newcomer that passes every test is seated
  pub join_seats : Passes h ns o n → join h ns o n ≡ seated h ns o n (free_seat h)
  unfolding join when◌then◌else◌
  join_seats p = rw (p.long, p.unnamed, p.unheard)

  takes : Passes h ns o n → (f : Option ℕ) → free_seat h ≡ f → Joins h ns o n (seated h ns o n f)
  unfolding seated free_seat
  takes p None q = turned_away AllSeatsTaken refl
  takes p (Some s) q =
      let f = found_holds (λ (t : ℕ). not (is_present h t)) 16 0 s q in
      sits_down s p q (not-true (is_present h s) f.0) (let z = f.1 in omega arith) refl

  joins : Joins h ns o n (join h ns o n)
  unfolding join when◌then◌else◌
  joins =
      by_test (length_allowed o)
      (λ a. by_test (is_some (seat_named h ns o))
      (λ b. rw (a, b) (turned_away IdentityPresent refl))
      (λ b. by_test (ssrc_taken h n.ssrc)
      (λ t. rw (a, b, t) (turned_away SsrcPresent refl))
      (λ t. rw (a, b, t) (takes (record { long = a; unnamed = b; unheard = t }) (free_seat h) refl))))
      (λ a. rw a (turned_away IdentityLength refl))

pub every_join : EveryJoin
every_join h ns o n = joins h ns o n
