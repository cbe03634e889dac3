-- The header is laid in four runs, each where the one before it ends.
use Prim.Native.Nat.{ℕ, ◌-◌, ◌/◌, ◌≤◌}
use mathlib.Core.List.{List, [], ◌∷◌, ◌++◌}
use mathlib.Core.Path.{refl}
use lib.ListN.{length}
use Rattle.header.specs.Header.{headed, name}
use Rattle.octets.specs.Octets.{octets16, octets32, Laid}
use Rattle.octets.proofs.Lays.{lay_join, lay_rest}
use Rattle.header.proofs.put_header.Goals as goal

pub returns : goal.returns
unfolding headed octets16 octets32
returns c =
    let a =
    c.args in
    let r₁ =
    c.put_pair.new.room in
    let r₂ = c.put16.new.room in
    let r₃ = c.put32.new.room in
    let ws : List ℕ = octets16 (a.size / 4 - 1) in
    let ss : List ℕ = octets32 a.ssrc in
    let ns : List ℕ = octets32 name in
    let l : Laid a.room.now 0 (a.first ∷ 204 ∷ []) r₁ 2 =
    record {
      ends = refl;
      stands = c.put_pair.ensures;
    } in
    let l₂ : Laid r₁ 2 ws r₂ 4 =
    record {
      ends = refl;
      stands = c.put16.ensures;
    } in
    let l₃ : Laid r₂ 4 ss r₃ 8 = record { ends = refl; stands = c.put32.ensures } in
    let l₄ : Laid r₃ 8 ns c.put32-2.new.room 12 = record { ends = refl; stands = c.put32-2.ensures } in
    let h : 12 ≤ length a.room.now =
    c.requires.header_size_in_bounds in
    let h₂ = lay_rest (ws ++ (ss ++ ns)) h l in
    let h₃ = lay_rest (ss ++ ns) h₂ l₂ in
    (lay_join h l (lay_join h₂ l₂ (lay_join h₃ l₃ l₄))).stands
