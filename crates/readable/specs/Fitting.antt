-- How the code tells whether a message is readable, and what a readable one gives to the functions that lay its fields; document 01 needs
-- none of it. Assumes nothing.
use Rattle.std.specs.Prelude.{ℕ, ◌≤◌, Bool, true, not, ◌&&◌, List, ◌≡◌, leb, Option, None, Some}
use Rattle.message.specs.Table.{at_fault}
use Rattle.message.specs.Message.{count_of, phrase_count, part_lies, phrase_lies}
use Rattle.message.specs.declared.Part.{Part}
use Rattle.message.specs.declared.RejectCause.{RejectCause}
use Rattle.message.specs.declared.Message.{Message}

-- the parts are short enough for the table, so that a length fits an octet and no sum of lengths wraps
pub record Short (m : Message) : Type 0 where
  pub granted : count_of m.granted ≤ 62
  pub user : count_of m.user ≤ 62
  pub phrase : phrase_count m.cause ≤ 253

-- what a readable message gives to the functions that lay its fields
pub record FieldsFit (m : Message) (src : List ℕ) : Type 0 where
  pub short : Short m
  pub granted : part_lies src m.granted ≡ true
  pub user : part_lies src m.user ≡ true
  pub phrase : phrase_lies src m.cause ≡ true

-- no field is against the table, by the numbers that the fields hold: a phrase is short enough, an identity has a length of the table,
-- a number that the table limits is not at fault
abbrev pub phrase_fits : Option RejectCause → Bool
phrase_fits None = true
phrase_fits (Some c) = leb c.phrase.count 253

abbrev pub identity_fits : Option Part → Bool
identity_fits None = true
identity_fits (Some p) = leb 1 p.count && leb p.count 62

abbrev pub content_fits : ℕ → Option ℕ → Bool
content_fits i None = true
content_fits i (Some n) = not (at_fault i n)

unfoldable pub fitting : Message → Bool
fitting m =
    phrase_fits m.cause && identity_fits m.granted && content_fits 5 m.permission && identity_fits m.user
    && content_fits 10 m.source
