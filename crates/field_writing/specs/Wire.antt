-- Fields as octets (document 01, "The packet"). Assumes nothing.
use Rattle.std.specs.Prelude.{ℕ, List, [], ◌∷◌, ◌++◌, replicate, Option, None, Some}
use Rattle.message.specs.Table.{row_of, length_of, padding}
use Rattle.message.specs.Message.{Field}

-- "A field is ID, length L, L octets, then padding"; "Padding and spare octets are written zero"
unfoldable pub field_octets : ℕ → List ℕ → List ℕ
field_octets i content =
    i ∷ length_of i content ∷ content ++ replicate (row_of i).spare 0 ++ replicate (padding (length_of i content)) 0

unfoldable pub optional : ℕ → Option (List ℕ) → List ℕ
optional i None = []
optional i (Some content) = field_octets i content

-- the fields one behind the other; those of a message stand in ascending order of their IDs
unfoldable pub body : List Field → List ℕ
body [] = []
body (f ∷ fs) = optional f.id f.content ++ body fs
