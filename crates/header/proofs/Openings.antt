-- What is answered by checks 1 to 8, each where those before it passed; and what is known of a packet that passed all of them.
-- Assumes nothing.
use Prim.Native.Nat.{ℕ, ◌≤◌, ◌<◌}
use mathlib.Core.Bool.{Bool, true, false}
use mathlib.Core.List.{List}
use mathlib.Core.Path.{◌≡◌, refl}
use lib.ListN.{length, get_or}
use native.Mathlib.Omega.{arith}
use Rattle.std.proofs.lemmas.Bool.Decides.{nat_tests}
use Rattle.std.specs.Prelude.{Option, None, Some}
use Rattle.words.specs.Choice.{when◌then◌else◌}
use Rattle.octets.specs.Octets.{be32}
use Rattle.message.specs.Types.{typed}
use Rattle.message.specs.Answers.{refused, result}
use Rattle.message.specs.declared.MessageType.{MessageType}
use Rattle.header.specs.Header.{header_size, name_place, version, pad_bit, type_bits, ends, name}
use Rattle.header.specs.Opening.{of_type, opening}

-- what a proof about the eight checks opens
unfoldable pub checks : Type 0
unfolding opening when◌then◌else◌ ends
checks = ℕ

-- what is answered by each of them, where those before it passed
module _ (s : List ℕ) where
  pub answers_1 : length s < 12 → opening s ≡ refused 1
  unfolding opening when◌then◌else◌
  answers_1 h = grind (arith, nat_tests)

  module _ (h1 : 12 ≤ length s) where
    pub answers_2 : 1024 < length s → opening s ≡ refused 2
    unfolding opening when◌then◌else◌
    answers_2 h = grind (arith, nat_tests)

    module _ (h2 : length s ≤ 1024) where
      pub answers_3 : (version s ≡ 2 → ⊥) → opening s ≡ refused 3
      unfolding opening when◌then◌else◌
      answers_3 h = grind (arith, nat_tests)

      module _ (h3 : version s ≡ 2) where
        pub answers_4 : pad_bit s ≡ 1 → opening s ≡ refused 4
        unfolding opening when◌then◌else◌
        answers_4 h = grind (arith, nat_tests)

        module _ (h4 : pad_bit s ≡ 1 → ⊥) where
          pub answers_5 : (get_or s 1 0 ≡ 204 → ⊥) → opening s ≡ refused 5
          unfolding opening when◌then◌else◌
          answers_5 h = grind (arith, nat_tests)

          module _ (h5 : get_or s 1 0 ≡ 204) where
            pub answers_6 : (ends s ≡ length s → ⊥) → opening s ≡ refused 6
            unfolding opening when◌then◌else◌
            answers_6 h = grind (arith, nat_tests)

            module _ (h6 : ends s ≡ length s) where
              pub answers_7 : (be32 s name_place ≡ name → ⊥) → opening s ≡ refused 7
              unfolding opening when◌then◌else◌
              answers_7 h = grind (arith, nat_tests)

              pub answers_8 : be32 s name_place ≡ name → opening s ≡ of_type (typed (type_bits s))
              unfolding opening when◌then◌else◌
              answers_8 h7 = grind (arith, nat_tests)

-- all that the eight checks ask of a packet of this type
pub record Opened (s : List ℕ) (k : MessageType) : Type 0 where
  pub long : header_size ≤ length s
  pub short : length s ≤ 1024
  pub two : version s ≡ 2
  pub plain : pad_bit s ≡ 1 → ⊥
  pub application : get_or s 1 0 ≡ 204
  pub measured : ends s ≡ length s
  pub called : be32 s name_place ≡ name
  pub type : typed (type_bits s) ≡ Some k

pub opens : (s : List ℕ) (k : MessageType) → Opened s k → opening s ≡ result k
unfolding opening when◌then◌else◌
opens s k o = grind (arith, nat_tests)

-- a choice whose answer is not its first: were it so, 0 would be 1
pub passed : {A : Type 0} (t : Bool) (a b r : A) → (a ≡ r → ◌≡◌ {A = ℕ} 0 1) → (when t then a else b) ≡ r → (t ≡ false) × (b ≡ r)
unfolding when◌then◌else◌
passed true a b r d e = let z : ◌≡◌ {A = ℕ} 0 1 = d e in absurd (omega arith)
passed false a b r d e = (refl, e)

of_type_lem : (t : Option MessageType) (k : MessageType) → of_type t ≡ result k → t ≡ Some k
of_type_lem None k e = cc
of_type_lem (Some j) k e = cc

pub opened_by : (s : List ℕ) (k : MessageType) → opening s ≡ result k → Opened s k
unfolding opening when◌then◌else◌
opened_by s k e =
    record {
      long = grind (arith, nat_tests);
      short = grind (arith, nat_tests);
      two = grind (arith, nat_tests);
      plain = grind (arith, nat_tests);
      application = grind (arith, nat_tests);
      measured = grind (arith, nat_tests);
      called = grind (arith, nat_tests);
      type = grind (arith, nat_tests, of_type_lem);
    }
