-- What the ways say in common: rule 6 leaves the line and the holder as they were, and the priority that a seat asks for is its effective
-- one. Assumes nothing.
use Prim.Native.Nat.{ℕ}
use mathlib.Core.Path.{◌≡◌, ap, sym, ◌∙◌}
use native.Mathlib.Omega.{arith}
use Rattle.hall.specs.declared.Hall.{Hall}
use Rattle.std.specs.Prelude.{Option, Some, None}
use Rattle.hall.specs.Seats.{effective, seat_of}
use Rattle.steps.specs.declared.Phase.{Phase}
use Rattle.steps.specs.declared.Core.{Core}
use Rattle.steps.specs.declared.Sending.{Sending}
use Rattle.giving.specs.Floor.{holds}
use Rattle.events.specs.declared.Event.{Event}
use Rattle.events.specs.declared.Event.TheVariants.{Start, Stop, Expiry, Request, Release, Position, Media, Other}
use Rattle.history.specs.Doing.{Doing}
use Rattle.history.specs.Asking.{Becoming, no_event, an_event, becomes, asks, from_seat, asked_by, asked_in, asking}
use Rattle.ways.specs.Ways.{Six, informs, presses, informs_and_presses}
use Rattle.ways.proofs.Apart.{asks-nobody}

module _ {c : Core} {h : Hall} {t : ℕ} {new : Core} {first second : Sending} where
  pub six_line : Six c h t new first second → new.line ≡ c.line
  six_line (informs q f s) = ap (λ (x : Core). x.line) q
  six_line (presses e b k q f s) = ap (λ (x : Core). x.line) q
  six_line (informs_and_presses e b k q f s) = ap (λ (x : Core). x.line) q

  pub six_holds : Six c h t new first second → (u : ℕ) → holds new.phase u ≡ holds c.phase u
  six_holds (informs q f s) u = ap (λ (x : Core). holds x.phase u) q
  six_holds (presses e b k q f s) u = ap (λ (x : Core). holds x.phase u) q ∙ sym (ap (λ (p : Phase). holds p u) k)
  six_holds (informs_and_presses e b k q f s) u = ap (λ (x : Core). holds x.phase u) q ∙ sym (ap (λ (p : Phase). holds p u) k)

-- the priority that a seat asks for is its effective one
module _ (h : Hall) (t p : ℕ) where
  pub record Effective : Type 0 where
    pub field : Option ℕ
    pub is : p ≡ effective h t field

  from_seat_lem : (a f : Option ℕ) → from_seat h a f ≡ asks t p → Effective
  from_seat_lem a (Some s) q =
      let i : s ≡ t = cc in record { field = a; is = (let j : effective h s a ≡ p = cc in sym j ∙ ap (λ (u : ℕ). effective h u a) i) }
  from_seat_lem a None q = let z : ◌≡◌ {A = ℕ} 0 1 = cc in absurd (omega arith)

  by_event : (e : Event) → asked_by h e ≡ asks t p → Effective
  by_event (Request x a) q = from_seat_lem a (seat_of h x) q
  by_event (Release x) q = asks-nobody q
  by_event (Position x) q = asks-nobody q
  by_event (Media x) q = asks-nobody q
  by_event (Other x) q = asks-nobody q
  by_event Start q = asks-nobody q
  by_event Stop q = asks-nobody q
  by_event (Expiry k) q = asks-nobody q

  by_becoming : (b : Becoming) → asked_in h b ≡ asks t p → Effective
  by_becoming no_event q = asks-nobody q
  by_becoming (an_event e) q = by_event e q

  pub asked-effective : (x : Doing) → asking h x ≡ asks t p → Effective
  asked-effective x q = by_becoming (becomes x) q
