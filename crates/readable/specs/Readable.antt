-- Which messages a reader would accept (document 01, "What is answered to packets": "12 (writer) a message that no reader would accept").
-- Assumes nothing.
use Rattle.std.specs.Prelude.{ℕ, Bool, true, not, ◌&&◌, List, [], ◌∷◌, Option, None, Some}
use Rattle.octets.specs.Octets.{be16}
use Rattle.message.specs.Table.{length_of, against}
use Rattle.message.specs.Message.{Field, said, lies, complete}
use Rattle.message.specs.declared.Message.{Message}

-- no field is against the table, by the reader's own test
abbrev pub fits : ℕ → Option (List ℕ) → Bool
fits i None = true
fits i (Some content) = not (against i (length_of i content) (be16 content 0))

unfoldable pub all_fit : List Field → Bool
all_fit [] = true
all_fit (f ∷ fs) = fits f.id f.content && all_fit fs

-- a message that a reader would accept: its parts are in the source, no field is against the table, no required one is missing
unfoldable pub readable : Message → List ℕ → Bool
readable m src = lies m src && all_fit (said m src).fields && complete (said m src)
