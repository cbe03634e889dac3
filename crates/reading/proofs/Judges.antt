-- The answer once the walk is over, by the array of starts. Assumes nothing.
use Prim.Native.Nat.{ℕ}
use native.Mathlib.Omega.{arith}
use mathlib.Core.Bool.{Bool, true, false, not}
use mathlib.Core.List.{List}
use mathlib.Core.Path.{◌≡◌, refl, sym, ap, ◌∙◌}
use lib.Dec.{eqb, lit<}
use lib.ListN.{get_or}
use Rattle.std.specs.Prelude.{Ok, Err}
use Rattle.words.specs.Choice.{when◌then◌else◌, by_test, if_yes, if_no}
use Rattle.message.specs.Answers.{Answer, refused, result, refusal_number}
use Rattle.message.specs.Message.{said, complete}
use Rattle.message.specs.declared.Message.{Message}
use Rattle.message.specs.declared.MessageType.{MessageType}
use Rattle.message.specs.declared.Refusal.{Refusal}
use Rattle.message.specs.declared.Refusal.TheVariants.{Missing}
use Rattle.header.specs.Opening.{opening}
use Rattle.header.proofs.Openings.{opened_by}
use Rattle.field.specs.declared.FieldFound.{FieldFound}
use Rattle.field.specs.Fields.{Fields, whole, fault, fields_in}
use Rattle.walk.specs.Starts.{start_of}
use Rattle.walk.specs.Walk.{no_starts, Notes, Walked}
use Rattle.walk.proofs.Reaches.{reach, reach_notes}
use Rattle.reading.specs.Reading.{octet_at, word_at, number_at, queue_at, part_at, cause_at, message_at, judged, opened, reading}
use Rattle.reading.specs.Judging.{Judges}
use Rattle.words.proofs.Tests.{clash}

-- a packet that was read passed checks 1 to 8, and its fields give its message
pub record ReadBy (s : List ℕ) (m : Message) : Type 0 where
  pub kind : MessageType
  pub opens : opening s ≡ result kind
  pub judges : judged kind s (fields_in s) ≡ result m

pub read_by : (s : List ℕ) (m : Message) → reading s ≡ result m → ReadBy s m
unfolding reading
read_by s m e = go (opening s) refl e
  where
    go : (a : Answer MessageType) → opening s ≡ a → opened a s ≡ result m → ReadBy s m
    go (refused n) q h = absurd (let z : ◌≡◌ {A = ℕ} 0 1 = cc in omega arith)
    go (result k) q h = record { kind = k; opens = q; judges = h }

-- what a proof about the value of one field opens
unfoldable pub placing : Type 0
unfolding octet_at word_at number_at queue_at part_at cause_at when◌then◌else◌
placing = ℕ

-- the message by the array of starts
module _ (starts : List ℕ) (fs : List FieldFound) (n : Notes starts fs) where
  pub message_notes : (k : MessageType) (s : List ℕ) → message_at k s (λ i. get_or starts i 0) ≡ message_at k s (start_of fs)
  unfolding message_at
  message_notes k s =
      simp (
        n.has 0 (lit< tt),
        n.has 1 (lit< tt),
        n.has 2 (lit< tt),
        n.has 3 (lit< tt),
        n.has 4 (lit< tt),
        n.has 5 (lit< tt),
        n.has 6 (lit< tt),
        n.has 8 (lit< tt),
        n.has 10 (lit< tt),
        n.has 12 (lit< tt),
        n.has 13 (lit< tt),
        n.has 14 (lit< tt),
      )

-- the answer once the walk is over: a fault, or the message and whether it is complete
module _ (k : MessageType) (s starts : List ℕ) where
  pub judged_fault : (r : Refusal) → Walked (fields_in s) (Err r) starts → refused (refusal_number r) ≡ judged k s (fields_in s)
  judged_fault r walked = by_fields (fields_in s) walked
    where
      by_fields : (fields : Fields) → Walked fields (Err r) starts → refused (refusal_number r) ≡ judged k s fields
      by_fields (whole fs) v = absurd v
      by_fields (fault n) v = ap refused v.0

  none_left : (r : Refusal) → Walked (fields_in s) (Err r) starts → starts ≡ no_starts
  none_left r walked = by_fields (fields_in s) walked
    where
      by_fields : (fields : Fields) → Walked fields (Err r) starts → starts ≡ no_starts
      by_fields (whole fs) v = absurd v
      by_fields (fault n) v = v.2

  module _ (walked : Walked (fields_in s) (Ok tt) starts) where
    pub record Found_all : Type 0 where
      pub fs : List FieldFound
      pub is : fields_in s ≡ whole fs
      pub notes : Notes starts fs

    pub found_all : Found_all
    found_all = by_fields (fields_in s) refl walked
      where
        by_fields : (fields : Fields) → fields_in s ≡ fields → Walked fields (Ok tt) starts → Found_all
        by_fields (whole fs) q v = record { fs = fs; is = q; notes = v }
        by_fields (fault n) q v = clash v.1 refl

    abbrev its_message : Message
    its_message = message_at k s (λ i. get_or starts i 0)

    pub judged_whole : judged k s (fields_in s) ≡ (when complete (said its_message s) then result its_message else refused 11)
    judged_whole = let f = found_all in rw (f.is, message_notes starts f.fs f.notes k s)

  -- what is known of the packet then, by its type and by the array of starts
  module _ (opens : opening s ≡ result k) where
    by_fields : reading s ≡ judged k s (fields_in s)
    unfolding reading
    by_fields = rw opens

    pub judges_fault : (r : Refusal) → Walked (fields_in s) (Err r) starts → Judges s (Err r) starts
    judges_fault r walked = (by_fields ∙ sym (judged_fault r walked), none_left r walked)

    module _ (walked : Walked (fields_in s) (Ok tt) starts) where
      pub judges_missing : complete (said (its_message walked) s) ≡ false → reading s ≡ refused (refusal_number Missing)
      judges_missing t = by_fields ∙ judged_whole walked ∙ if_no _ _ _ t

      pub judges_whole : complete (said (its_message walked) s) ≡ true → Judges s (Ok k) starts
      judges_whole t =
          let f = found_all walked in (
            by_fields ∙ judged_whole walked ∙ if_yes _ _ _ t,
            reach_notes starts f.fs f.notes s (reach s f.fs (opened_by s k opens).long f.is),
            rw f.is f.notes,
          )

-- a field is given where its start is not 0
pub given-at : {A : Type 0} (given : A → Bool) (lacks has : A) (at : ℕ) → given lacks ≡ false → given has ≡ true
    → not (eqb at 0) ≡ given (when eqb at 0 then lacks else has)
unfolding when◌then◌else◌
given-at given lacks has at n s = by_test (eqb at 0) (λ e. rw (e, n)) (λ e. rw (e, s))
