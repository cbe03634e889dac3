-- One run laid behind another.
--     lay_none   nothing laid
--     lay_join   two runs, the second where the first ends, are one
--     lay_fits   where two runs fit, the first does
--     lay_rest   and the second fits behind it
-- Assumes nothing.
use Prim.Native.Nat.{ℕ, ◌+◌, ◌≤◌}
use native.Mathlib.Nat.{add-zero}
use native.Mathlib.Omega.{arith}
use mathlib.Core.List.{List, [], ◌++◌}
use mathlib.Core.Path.{◌≡◌, sym, ap, ◌∙◌}
use lib.ListN.{length, length-append}
use Rattle.octets.specs.Octets.{over, Laid}
use Rattle.octets.proofs.Over.{over_none, over-two, length_over}

pub lay_none : (room : List ℕ) (at : ℕ) → Laid room at [] room at
lay_none room at = record { ends = sym (add-zero at); stands = sym (over_none room at) }

pub lay_fits : (room : List ℕ) (at : ℕ) (xs ys : List ℕ) → at + length (xs ++ ys) ≤ length room → at + length xs ≤ length room
lay_fits room at xs ys h = let h' = simp length-append at h in omega arith

pub lay_rest : {room room₁ xs : List ℕ} {at end : ℕ} (ys : List ℕ) → at + length (xs ++ ys) ≤ length room → Laid room at xs room₁ end
    → end + length ys ≤ length room₁
lay_rest {room} {room₁} {xs} {at} {end} ys h l =
    let h' : at + (length xs + length ys) ≤ length room = simp length-append at h in
    let e : length room₁ ≡ length room = ap length l.stands ∙ length_over room at xs (omega arith) in
    omega (arith, l.ends)

pub lay_join : {room room₁ room₂ xs ys : List ℕ} {at end end₂ : ℕ} → at + length (xs ++ ys) ≤ length room
    → Laid room at xs room₁ end → Laid room₁ end ys room₂ end₂ → Laid room at (xs ++ ys) room₂ end₂
lay_join {room} {room₁} {room₂} {xs} {ys} {at} {end} {end₂} h l n = record {
  ends = let e = length-append xs ys in omega (arith, l.ends, n.ends);
  stands =
      n.stands
      ∙ ap (λ (r : List ℕ). over r end ys) l.stands
      ∙ ap (λ (k : ℕ). over (over room at xs) k ys) l.ends
      ∙ over-two room at xs ys (let h' = simp length-append at h in omega arith);
}

-- the same octets, said another way
pub lay_as : {room room₁ xs ys : List ℕ} {at end : ℕ} → xs ≡ ys → Laid room at xs room₁ end → Laid room at ys room₁ end
lay_as e l = rw (← e) l
