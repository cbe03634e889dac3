-- The table of fields (document 01, "The packet"): for each ID the least and the greatest L, and how many octets of the content are spare.
-- Assumes nothing.
use Rattle.std.specs.Prelude.{ℕ, ◌+◌, ◌-◌, ◌*◌, ◌/◌, Bool, true, false, ◌||◌, List, [], ◌∷◌, ltb, eqb, length}
use Rattle.words.specs.Choice.{when◌then◌else◌}
use Rattle.message.specs.declared.Lengths.{Lengths}

pub record FieldRow : Type 0 where
  pub id : ℕ
  pub least : ℕ
  pub greatest : ℕ
  pub spare : ℕ

abbrev pub row : ℕ → ℕ → ℕ → ℕ → FieldRow
row i l g s = record { id = i; least = l; greatest = g; spare = s }

--            ID  L least .. greatest, spare
abbrev pub table : List FieldRow
table =
    row 0 2 2 1  -- Floor Priority: priority, spare
    ∷ row 1 2 2 0  -- Duration: seconds
    ∷ row 2 2 255 0  -- Reject Cause: 16-bit cause, phrase
    ∷ row 3 2 2 0  -- Queue Info: position, priority
    ∷ row 4 1 62 0  -- Granted Party's Identity
    ∷ row 5 2 2 0  -- Permission to Request: 0 or 1
    ∷ row 6 1 62 0  -- User ID: identity
    ∷ row 8 2 2 0  -- Message Sequence-Number: number
    ∷ row 10 2 2 0  -- Source: 0..3
    ∷ row 12 2 2 1  -- Message Type: type, spare
    ∷ row 13 2 2 0  -- Floor Indicator: 16 bits, passed through
    ∷ row 14 6 6 2  -- SSRC: SSRC, 2 spare
    ∷ []

-- "Every other ID below 192 is skipped by its length": any length will do
abbrev pub skipped : ℕ → FieldRow
skipped i = row i 0 255 0

-- the row of an ID, and whether the table has one
unfoldable pub row_in : List FieldRow → ℕ → FieldRow
row_in [] i = skipped i
row_in (r ∷ rows) i = when eqb i r.id then r else row_in rows i

abbrev pub row_of : ℕ → FieldRow
row_of i = row_in table i

unfoldable pub listed_in : List FieldRow → ℕ → Bool
listed_in [] i = false
listed_in (r ∷ rows) i = when eqb i r.id then true else listed_in rows i

abbrev pub listed : ℕ → Bool
listed i = listed_in table i

-- the least and the greatest L of an ID, as the code holds them
abbrev pub row_lengths : ℕ → Lengths
row_lengths i = record { least = (row_of i).least; greatest = (row_of i).greatest }

-- "Content can be at fault only at IDs 5 and 10": the number that it is
unfoldable pub at_fault : ℕ → ℕ → Bool
at_fault i n = when eqb i 5 then ltb 1 n else when eqb i 10 then ltb 3 n else false

-- L of a field: its content and the spare octets behind it
abbrev pub length_of : ℕ → List ℕ → ℕ
length_of i content = length content + (row_of i).spare

-- L or content against the table: the field's ID, its L, and its content
unfoldable pub against : ℕ → ℕ → ℕ → Bool
against i l n = ltb l (row_of i).least || ltb (row_of i).greatest l || at_fault i n

-- "A field is ID, length L, L octets, then padding to a multiple of 4 counted from its ID": the octets of padding. ID and L are 2 octets,
-- so 2 + L are there. Filled up to a multiple of 4 they are (2 + L + 3) / 4 * 4: division cuts off, and with 3 more it cuts off nothing
-- that is there. The padding is what came to them: 2, 1, 0, 3 octets for an L of 0, 1, 2, 3, and so on around.
unfoldable pub padding : ℕ → ℕ
padding len = (2 + len + 3) / 4 * 4 - (2 + len)

-- the octets of the whole field
unfoldable pub padded : ℕ → ℕ
padded len = 2 + len + padding len
