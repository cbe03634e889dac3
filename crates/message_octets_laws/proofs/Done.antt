-- 0 is answered only where a packet was read and the room has 40 octets. Assumes nothing.
use Prim.Native.Nat.{ℕ, zero, suc, ◌≤◌}
use native.Mathlib.Omega.{arith}
use mathlib.Core.List.{List, [], ◌∷◌}
use mathlib.Core.Path.{◌≡◌, refl, sym, ◌∙◌}
use lib.Dec.{ltb}
use lib.ListN.{length}
use borrow.Author.Tests.{ltb-false}
use Rattle.words.specs.Choice.{by_test, by_if, if_yes}
use Rattle.message.specs.Answers.{Answer, refused, result}
use Rattle.message.specs.Types.{typed}
use Rattle.message.specs.Message.{said, complete}
use Rattle.message.specs.declared.MessageType.{MessageType}
use Rattle.std.specs.Prelude.{Option, None, Some}
use Rattle.message.specs.declared.Message.{Message}
use Rattle.field.specs.declared.FieldFound.{FieldFound}
use Rattle.field.specs.declared.FieldStep.{FieldStep}
use Rattle.field.specs.declared.FieldStep.TheVariants.{Field, Skipped, End, PastTheEnd, AgainstTheTable}
use Rattle.field.specs.Fields.{Fields, whole, fault, infront, among, step_at, step_then, fields_from, fields_in}
use Rattle.walk.specs.Starts.{start_of}
use Rattle.header.specs.Header.{header_size, type_bits}
use Rattle.header.specs.Opening.{of_type, opening}
use Rattle.reading.specs.Reading.{message_at, judged, opened, reading}
use Rattle.message_octets.specs.Held.{read_number, read_held}
use Rattle.message_octets_laws.specs.Laws.{WasRead, ReadIf0}
use Rattle.message_octets.specs.Places.{message_size}

-- an answer that is no refusal, or one with a number
abbrev Numbered : {A : Type 0} → Answer A → Type 0
Numbered (refused n) = 1 ≤ n
Numbered (result a) = Unit {0}

-- a walk ends with a number that is not 0
abbrev Ended : Fields → Type 0
Ended (whole fs) = Unit {0}
Ended (fault n) = 1 ≤ n

front_ended : (f : FieldFound) (fs : Fields) → Ended fs → Ended (infront f fs)
front_ended f (whole fs) e = tt
front_ended f (fault n) e = e

step_ended : (before : List ℕ) (t : FieldStep) (rest : List ℕ → ℕ → Fields) → ((past : List ℕ) (next : ℕ) → Ended (rest past next))
    → Ended (step_then before t rest)
step_ended before End rest e = tt
step_ended before PastTheEnd rest e = omega arith
step_ended before (AgainstTheTable i) rest e = by_if Ended (among before i) (λ t. omega arith) (λ t. omega arith)
step_ended before (Field f) rest e =
    by_if Ended (among before f.id) (λ t. omega arith)
    (λ t. front_ended f (rest (f.id ∷ before) f.next) (e (f.id ∷ before) f.next))
step_ended before (Skipped f) rest e = e before f.next

ended : (steps : ℕ) (before s : List ℕ) (at : ℕ) → Ended (fields_from steps before s at)
unfolding fields_from
ended zero before s at = tt
ended (suc steps) before s at =
    step_ended before (step_at s at) (λ past next. fields_from steps past s next) (λ past next. ended steps past s next)

judged-numbered : (k : MessageType) (s : List ℕ) (fs : Fields) → Ended fs → Numbered (judged k s fs)
judged-numbered k s (fault n) e = e
judged-numbered k s (whole fs) e =
    by_if Numbered (complete (said (message_at k s (start_of fs)) s)) (λ t. tt) (λ t. omega arith)

type_numbered : (t : Option MessageType) → Numbered (of_type t)
type_numbered None = omega arith
type_numbered (Some k) = tt

some : (n : ℕ) → 1 ≤ suc n
some n = omega arith

opening-numbered : (s : List ℕ) → Numbered (opening s)
unfolding opening
opening-numbered s =
    by_if Numbered _ (λ t. some 0) (λ t. by_if Numbered _ (λ t. some 1) (λ t. by_if Numbered _ (λ t. some 2) (λ t.
    by_if Numbered _ (λ t. some 3) (λ t. by_if Numbered _ (λ t. some 4) (λ t. by_if Numbered _ (λ t. some 5) (λ t.
    by_if Numbered _ (λ t. some 6) (λ t. type_numbered (typed (type_bits s)))))))))

opened-numbered : (s : List ℕ) (a : Answer MessageType) → Numbered a → Numbered (opened a s)
unfolding fields_in
opened-numbered s (refused n) p = p
opened-numbered s (result k) p = judged-numbered k s (fields_in s) (ended (length s) [] s header_size)

numbered : (s : List ℕ) → Numbered (reading s)
unfolding reading
numbered s = opened-numbered s (opening s) (opening-numbered s)

done : (a : Answer Message) (packet : List ℕ) (room : ℕ) → reading packet ≡ a → Numbered a → read_number a room ≡ 0 → WasRead packet room
done (refused n) packet room e p z = absurd (omega arith)
done (result m) packet room e p z =
    by_test (ltb room message_size)
    (λ t. let z' : ◌≡◌ {A = ℕ} 13 0 = sym (if_yes (ltb room message_size) 13 0 t) ∙ z in absurd (omega arith))
    (λ t. record { message = m; read = e; long = ltb-false room message_size t })

pub read_if_0 : ReadIf0
unfolding read_held
read_if_0 packet room z = done (reading packet) packet room refl (numbered packet) z
