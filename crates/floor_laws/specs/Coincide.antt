-- "Any two results it would allow are proved to coincide", of the public functions that promise by what they were lent: a closure or the
-- number of a refusal. `may` is what that allows, as `F.post` of the closure at the desk, or `from_gives` of the refusal; where it allows
-- one alone, so does the promise. The other functions that are lent a closure, `desk_octets::all_below` and `core_writing::put_column`,
-- promise an equation for any closure that allows one value at each place. Each is proved in proofs/Coincide. Assumes nothing.
use Rattle.std.specs.Prelude.{ℕ, List, ◌≡◌, ℤ}
use Rattle.signed.specs.Signed.{RefusedBy}
use Rattle.steps.specs.declared.Step.{Step}
use Rattle.desk_looking.specs.Looking.{AskedAt, NoneAsked, WrittenAt, NoneWritten}
use Rattle.desk_steps.specs.Steps.{step_leaves, SteppedAt, NoneStepped}

-- one value alone is allowed
abbrev pub AllowsOne : {A : Type 0} → (A → Type 0) → Type 0
AllowsOne {A} may = (x y : A) → may x → may y → x ≡ y

-- `desk_looking::on_desk`: the answer
abbrev pub AskedCoincide : Type 1
AskedCoincide =
    (d : List ℕ) (may : ℤ → Type 0) (n n' : ℤ) → AllowsOne may →
    AskedAt d may n → NoneAsked d n → AskedAt d may n' → NoneAsked d n' → n ≡ n'

-- `desk_looking::from_desk`: the answer, and what is left in the room
abbrev pub WrittenCoincide : Type 1
WrittenCoincide =
    (d room : List ℕ) (may : ℤ → List ℕ → Type 0) (n n' : ℤ) (after after' : List ℕ) →
    ((x x' : ℤ) (r r' : List ℕ) → may x r → may x' r' → (x ≡ x') × (r ≡ r')) →
    WrittenAt d may n after → NoneWritten d room n after → WrittenAt d may n' after' → NoneWritten d room n' after' →
    (n ≡ n') × (after ≡ after')

-- `desk_steps::step_with`: the answer, and what is left in the desk and the report
abbrev pub SteppedCoincide : Type 1
SteppedCoincide =
    (d r : List ℕ) (may : Step → Type 0) (n n' : ℤ) (d' d'' r' r'' : List ℕ) → AllowsOne may →
    SteppedAt d r may n d' r' → NoneStepped d r n d' r' → SteppedAt d r may n' d'' r'' → NoneStepped d r n' d'' r'' →
    step_leaves n d' r' ≡ step_leaves n' d'' r''

-- `signed::refused`, and `signed::told` of what is refused; of what is done it promises an equation
abbrev pub RefusedCoincide : Type 1
RefusedCoincide = (may : ℕ → Type 0) (z z' : ℤ) → AllowsOne may → RefusedBy may z → RefusedBy may z' → z ≡ z'
