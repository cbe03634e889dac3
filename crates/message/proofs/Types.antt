-- A type and the number that names it, both ways. Assumes nothing.
use Prim.Native.Nat.{ℕ, ◌≤◌}
use native.Mathlib.Omega.{arith}
use mathlib.Core.Bool.{Bool, true}
use mathlib.Core.Path.{◌≡◌, refl}
use lib.Dec.{eqb, ltb}
use lib.ListN.{get_or-eq_default}
use borrow.Author.Tests.{eqb-true, ltb-true, ltb-false}
use Rattle.words.specs.Below.{below}
use Rattle.words.specs.Choice.{by_test}
use Rattle.message.specs.Types.{types, typed, type_number}
use Rattle.message.specs.declared.MessageType.{MessageType}
use Rattle.message.specs.declared.MessageType.TheVariants.{Request, Granted, Taken, Deny, Release, Idle, Revoke}
use Rattle.message.specs.declared.MessageType.TheVariants.{QueuePositionRequest}
use Rattle.message.specs.declared.MessageType.TheVariants.{QueuePositionInfo, Ack}
use Rattle.std.specs.Prelude.{Option, None, Some}

pub type_small : (k : MessageType) → type_number k ≤ 10
type_small Request = omega arith
type_small Granted = omega arith
type_small Taken = omega arith
type_small Deny = omega arith
type_small Release = omega arith
type_small Idle = omega arith
type_small Revoke = omega arith
type_small QueuePositionRequest = omega arith
type_small QueuePositionInfo = omega arith
type_small Ack = omega arith

-- the number names the type
pub type_back : (k : MessageType) → typed (type_number k) ≡ Some k
type_back Request = refl
type_back Granted = refl
type_back Taken = refl
type_back Deny = refl
type_back Release = refl
type_back Idle = refl
type_back Revoke = refl
type_back QueuePositionRequest = refl
type_back QueuePositionInfo = refl
type_back Ack = refl

-- and a listed type has the number that names it
abbrev named : Option MessageType → ℕ → Bool
named None n = true
named (Some k) n = eqb (type_number k) n

all_named : (n : ℕ) → named (typed n) n ≡ true
all_named n =
    by_test (ltb n 11) (λ t. below (λ i. named (typed i) i) 11 refl n (ltb-true n 11 t))
    (λ t. rw (get_or-eq_default types None (ltb-false n 11 t)))

pub type_named : (n : ℕ) (k : MessageType) → typed n ≡ Some k → type_number k ≡ n
type_named n k e = eqb-true (type_number k) n (rw e at (all_named n))
