-- What is an event is no leave; what asks for nothing is no request; and one request has one asker. Assumes nothing.
use Prim.Native.Nat.{ℕ}
use mathlib.Core.Path.{◌≡◌, ap, sym, ◌∙◌}
use mathlib.Core.Bool.{Bool, true, false}
use native.Mathlib.Omega.{arith}
use Rattle.words.proofs.Tests.{clash}
use Rattle.hall.specs.declared.Hall.{Hall}
use Rattle.steps.specs.declared.Core.{Core}
use Rattle.events.specs.declared.Event.{Event}
use Rattle.history.specs.Doing.{Doing, event, packet, leaves, joins}
use Rattle.history.specs.Asking.{Becoming, no_event, an_event, becomes, Asking, nobody, asks, released_by, released_in, gives_up}
use Rattle.ways.specs.Ways.{Unmoved}

pub no_event_lem : {e : Event} {A : Type 0} → no_event ≡ an_event e → A
no_event_lem q = let z : ◌≡◌ {A = ℕ} 0 1 = cc in absurd (omega arith)

pub no_leave : {x : Doing} {e : Event} {u : ℕ} {A : Type 0} → becomes x ≡ an_event e → x ≡ leaves u → A
no_leave is q = no_event_lem (sym (ap becomes q) ∙ is)

abbrev is_leave : Doing → Bool
is_leave (event e) = false
is_leave (packet o) = false
is_leave (leaves s) = true
is_leave (joins o n) = false

pub not-leave : {x : Doing} {u : ℕ} {A : Type 0} → is_leave x ≡ false → x ≡ leaves u → A
not-leave n q = clash (ap is_leave q) n

-- what is an event gives up what its event does
pub gives_up_lem : (h : Hall) (x : Doing) (e : Event) (s : ℕ) → becomes x ≡ an_event e → gives_up h x s ≡ released_by h e s
gives_up_lem h (event f) e s is = ap (λ (b : Becoming). released_in h b s) is
gives_up_lem h (packet o) e s is = ap (λ (b : Becoming). released_in h b s) is
gives_up_lem h (leaves t) e s is = no_event_lem is
gives_up_lem h (joins o n) e s is = no_event_lem is

pub asks-nobody : {t p : ℕ} {A : Type 0} → nobody ≡ asks t p → A
asks-nobody q = let z : ◌≡◌ {A = ℕ} 0 1 = cc in absurd (omega arith)

module _ {c : Core} {h : Hall} (a : Asking) where
  -- what is so of the seat and the priority asked for is so of whatever is asked for
  pub this_one : (t p : ℕ) → a ≡ asks t p → Unmoved c h t p → (u v : ℕ) → a ≡ asks u v → Unmoved c h u v
  this_one t p q m u v r = let i : t ≡ u = cc in let j : p ≡ v = cc in rw (sym i, sym j) m

  pub not-asked : a ≡ nobody → (u v : ℕ) → a ≡ asks u v → Unmoved c h u v
  not-asked q u v r = asks-nobody (sym q ∙ r)
