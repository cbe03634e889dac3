-- The bits of the fields that a message has: what each adds makes the whole, and each can be asked again. Assumes nothing.
use Prim.Native.Nat.{ℕ, zero, suc, ◌+◌, ◌*◌, ◌/◌, ◌%◌, ◌^◌, ◌<◌}
use native.Mathlib.Nat.{mul-one, mul-zero, zero-add, add-zero, div-one, pow-succ', div-div-eq-div-mul, not-suc-le-zero, le_of_suc-le-suc}
use native.Mathlib.Omega.{arith}
use mathlib.Core.Bool.{Bool, true, false}
use mathlib.Core.List.{[]}
use mathlib.Core.Path.{◌≡◌, refl, sym, ap, ◌∙◌}
use Rattle.words.specs.Choice.{when◌then◌else◌, one}
use lib.Dec.{eqb}
use Rattle.std.specs.Prelude.{Option, None, Some, is_some, option_map}
use Rattle.message.specs.Message.{fields_of, has}
use Rattle.message.specs.declared.Message.{Message}
use Rattle.message_octets.specs.Held.{bits, worth_if, which, is_set}

worth_is : (b : Bool) (worth : ℕ) → worth_if b worth ≡ worth * one b
worth_is true worth = sym (mul-one worth)
worth_is false worth = sym (mul-zero worth)

in_order : (b₀ b₁ b₂ b₃ b₄ b₅ b₆ b₈ b₁₀ b₁₂ b₁₃ b₁₄ : Bool) →
    worth_if b₀ 1 + worth_if b₁ 2 + worth_if b₂ 4 + worth_if b₃ 8 + worth_if b₄ 16 + worth_if b₅ 32 + worth_if b₆ 64 + worth_if b₈ 256
    + worth_if b₁₀ 1024 + worth_if b₁₂ 4096 + worth_if b₁₃ 8192 + worth_if b₁₄ 16384
    ≡ one b₀ + 2 * (one b₁ + 2 * (one b₂ + 2 * (one b₃ + 2 * (one b₄ + 2 * (one b₅ + 2 * (one b₆ + 2 * (0 + 2 * (one b₈ + 2 * (0
    + 2 * (one b₁₀ + 2 * (0 + 2 * (one b₁₂ + 2 * (one b₁₃ + 2 * (one b₁₄ + 2 * (0 + 2 * 0)))))))))))))))
in_order b₀ b₁ b₂ b₃ b₄ b₅ b₆ b₈ b₁₀ b₁₂ b₁₃ b₁₄ =
    rw (
      worth_is b₀ 1,
      worth_is b₁ 2,
      worth_is b₂ 4,
      worth_is b₃ 8,
      worth_is b₄ 16,
      worth_is b₅ 32,
      worth_is b₆ 64,
      worth_is b₈ 256,
      worth_is b₁₀ 1024,
      worth_is b₁₂ 4096,
      worth_is b₁₃ 8192,
      worth_is b₁₄ 16384,
    ) (omega arith)

there : {X Y : Type 0} (f : X → Y) (o : Option X) → is_some (option_map f o) ≡ is_some o
there f None = refl
there f (Some x) = refl

pub which_is : (m : Message) →
    worth_if (is_some m.priority) 1 + worth_if (is_some m.duration) 2
    + worth_if (is_some m.cause) 4 + worth_if (is_some m.queue) 8
    + worth_if (is_some m.granted) 16 + worth_if (is_some m.permission) 32
    + worth_if (is_some m.user) 64 + worth_if (is_some m.sequence) 256
    + worth_if (is_some m.source) 1024 + worth_if (is_some m.message_type) 4096
    + worth_if (is_some m.indicator) 8192 + worth_if (is_some m.ssrc_field) 16384
    ≡ which m
unfolding which has when◌then◌else◌
which_is m =
    rw (
      there _ m.priority,
      there _ m.duration,
      there _ m.cause,
      there _ m.queue,
      there _ m.granted,
      there _ m.permission,
      there _ m.user,
      there _ m.sequence,
      there _ m.source,
      there _ m.message_type,
      there _ m.indicator,
      there _ m.ssrc_field,
    )
    (in_order (is_some m.priority) (is_some m.duration) (is_some m.cause) (is_some m.queue) (is_some m.granted) (is_some m.permission)
    (is_some m.user) (is_some m.sequence) (is_some m.source) (is_some m.message_type) (is_some m.indicator) (is_some m.ssrc_field))

-- the lowest bit, and what is left above it
lowest : (b : Bool) (n : ℕ) → (one b + 2 * n) % 2 ≡ one b
lowest true n = omega arith
lowest false n = omega arith

above : (b : Bool) (n : ℕ) → (one b + 2 * n) / 2 ≡ n
above true n = omega arith
above false n = omega arith

pub flag_back : (b : Bool) → eqb (one b) 1 ≡ b
flag_back true = refl
flag_back false = refl

-- bit k of the number of n bits is the k-th of them
bit_back : (f : ℕ → Bool) (i n k : ℕ) → k < n → is_set (bits f i n) k ≡ f (i + k)
bit_back f i zero k h = absurd (not-suc-le-zero h)
bit_back f i (suc n) zero h =
    ap (λ (x : ℕ). eqb (x % 2) 1) (div-one (one (f i) + 2 * bits f (suc i) n)) ∙ ap (λ (x : ℕ). eqb x 1) (lowest (f i) (bits f (suc i) n))
    ∙ flag_back (f i) ∙ ap f (sym (add-zero i))
bit_back f i (suc n) (suc k) h =
    let w : ℕ = one (f i) + 2 * bits f (suc i) n in
    let halved : w / 2 ^ suc k ≡ bits f (suc i) n / 2 ^ k =
    ap (λ (d : ℕ). w / d) (pow-succ' 2 k) ∙ sym (div-div-eq-div-mul w 2 (2 ^ k))
    ∙ ap (λ (x : ℕ). x / 2 ^ k) (above (f i) (bits f (suc i) n)) in
    let further : suc i + k ≡ i + suc k = omega arith in
    ap (λ (x : ℕ). eqb (x % 2) 1) halved ∙ bit_back f (suc i) n k (le_of_suc-le-suc h) ∙ ap f further

pub is_set_lem : (m : Message) (k : ℕ) → k < 16 → is_set (which m) k ≡ has (fields_of m []) k
unfolding which
is_set_lem m k h = bit_back (has (fields_of m [])) 0 16 k h ∙ ap (has (fields_of m [])) (zero-add k)
