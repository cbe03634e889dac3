-- How many octets each field takes, as the code sums them; document 01 needs none of it. Assumes nothing.
use Rattle.std.specs.Prelude.{ℕ, ◌+◌, Option, None, Some}
use Rattle.message.specs.Table.{padded}
use Rattle.message.specs.declared.QueueInfo.{QueueInfo}
use Rattle.message.specs.declared.Part.{Part}
use Rattle.message.specs.declared.RejectCause.{RejectCause}

-- a field whose content has so many octets, and none where the message lacks it
abbrev pub size_of : {X : Type 0} → (X → ℕ) → Option X → ℕ
size_of count None = 0
size_of count (Some x) = padded (count x)

abbrev pub octet_size : Option ℕ → ℕ
octet_size o = size_of (λ n. 1) o

abbrev pub word_size : Option ℕ → ℕ
word_size o = size_of (λ n. 2) o

abbrev pub queue_size : Option QueueInfo → ℕ
queue_size o = size_of (λ q. 2) o

abbrev pub number_size : Option ℕ → ℕ
number_size o = size_of (λ n. 4) o

abbrev pub part_size : Option Part → ℕ
part_size o = size_of (λ p. p.count) o

abbrev pub cause_size : Option RejectCause → ℕ
cause_size o = size_of (λ c. c.phrase.count + 2) o
