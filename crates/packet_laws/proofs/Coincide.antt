-- Any two results that a promise allows coincide. Assumes nothing.
use mathlib.Core.Path.{◌≡◌, refl, ap, sym, ◌∙◌}
use mathlib.Core.List.{List}
use Prim.Native.Nat.{ℕ}
use lib.Seq.{ext_get_or}
use Rattle.std.specs.Prelude.{Result, Ok, Err}
use Rattle.words.proofs.Tests.{clash}
use Rattle.message.specs.declared.Message.{Message}
use Rattle.message.specs.declared.Refusal.{Refusal}
use Rattle.message.specs.Answers.{Answer, result}
use Rattle.message.proofs.Answers.{number_one, never, refusal-one, told_one}
use Rattle.field.specs.Fields.{Fields, whole, fault, fields_in}
use Rattle.walk.specs.Walk.{Noted, Walked}
use Rattle.reading.specs.Reading.{message_at}
use Rattle.packet_laws.specs.Again.{NumbersDiffer, ReadersCoincide, WritersCoincide, LaysCoincide, JudgesCoincide, OpeningsCoincide}
use Rattle.packet_laws.specs.Again.{WalksCoincide}

pub numbers_differ : NumbersDiffer
numbers_differ = number_one

pub readers_coincide : ReadersCoincide
readers_coincide s q q' p p' = told_one q q' (p ∙ sym p')

pub writers_coincide : WritersCoincide
writers_coincide tells leaves r r' room room' p p' = record { answers = told_one r r' (p.0 ∙ sym p'.0); rooms = p.1 ∙ sym p'.1 }

pub lays_coincide : LaysCoincide
lays_coincide before octets after after' at end end' l l' = (l.ends ∙ sym l'.ends, l.stands ∙ sym l'.stands)

same_notes : (fs : Fields) (starts starts' : List ℕ) → Noted fs starts → Noted fs starts' → starts ≡ starts'
same_notes (whole fs) starts starts' n n' =
    ext_get_or 0 starts starts' (n.long ∙ sym n'.long) (λ i h. let h' = rw n.long at h in n.has i h' ∙ sym (n'.has i h'))
same_notes (fault k) starts starts' n n' = absurd n

message_of : (m m' : Message) → ◌≡◌ {A = Answer Message} (result m) (result m') → m ≡ m'
message_of m m' e = cc

pub judges_coincide : JudgesCoincide
unfolding message_at
judges_coincide s (Ok k) (Ok k') starts starts' p p' =
    record {
      answers = ap (λ (m : Message). Ok m.kind) (message_of _ _ (sym p.0 ∙ p'.0));
      noted = same_notes (fields_in s) starts starts' p.2 p'.2;
    }
judges_coincide s (Ok k) (Err r) starts starts' p p' = never (sym p'.0 ∙ p.0)
judges_coincide s (Err r) (Ok k) starts starts' p p' = never (sym p.0 ∙ p'.0)
judges_coincide s (Err r) (Err r') starts starts' p p' =
    record { answers = ap Err (refusal-one r r' (sym p.0 ∙ p'.0)); noted = p.1 ∙ sym p'.1 }

pub openings_coincide : OpeningsCoincide
openings_coincide s r r' p p' = told_one r r' (p ∙ sym p')

pub walks_coincide : WalksCoincide
walks_coincide s w w' starts starts' l l' = go (fields_in s) w w' l l'
  where
    go : (fields : Fields) (w w' : Result (Unit {0}) Refusal) → Walked fields w starts → Walked fields w' starts' →
        (w ≡ w') × (starts ≡ starts')
    go (whole fs) (Ok u) (Ok u') k k' = (refl, same_notes (whole fs) starts starts' k k')
    go (whole fs) (Ok u) (Err r) k k' = absurd k'
    go (whole fs) (Err r) w' k k' = absurd k
    go (fault n) (Ok u) w' k k' = clash k.1 refl
    go (fault n) (Err r) (Ok u) k k' = clash k'.1 refl
    go (fault n) (Err r) (Err q) k k' = (ap Err (number_one r q (k.0 ∙ sym k'.0)), k.2 ∙ sym k'.2)
