-- Read back: the octets of a message that the writer accepts read as that message. Assumes nothing.
use Prim.Native.Nat.{ℕ, ◌+◌, ◌-◌, ◌/◌, ◌%◌, ◌≤◌, ◌<◌}
use native.Mathlib.Omega.{arith}
use mathlib.Core.Bool.{Bool, true, false, ◌&&◌}
use mathlib.Core.Path.{◌≡◌, refl, ap, ◌∙◌}
use mathlib.Core.List.{List, [], ◌∷◌}
use Rattle.std.specs.Prelude.{Option, None, Some}
use lib.Dec.{eqb}
use lib.ListN.{length, length-append}
use borrow.Author.Tests.{not-true}
use Rattle.words.specs.Below.{and_left, and_right}
use Rattle.words.specs.Choice.{when◌then◌else◌, if_yes}
use Rattle.octets.specs.Octets.{be16, be32, octets16, octets32}
use Rattle.message.specs.Types.{type_number}
use Rattle.message.specs.Table.{row_of, row_in, listed_in, length_of}
use Rattle.message.specs.Message.{Field, field, said, fields_of, complete, lies}
use Rattle.message.specs.Answers.{refused, result}
use Rattle.message.proofs.Types.{type_small, type_back}
use Rattle.message.specs.declared.MessageType.{MessageType}
use Rattle.message.specs.declared.Message.{Message}
use Rattle.field.specs.declared.FieldFound.{FieldFound}
use Rattle.field.specs.Fields.{among, fields_in}
use Rattle.walk.specs.Starts.{start_of}
use Rattle.reading.specs.Reading.{reading, message_at, judged}
use Rattle.header.specs.Header.{header_size, length_place, ssrc_place, ends, headed, first_octet}
use Rattle.header.proofs.Openings.{Opened, opens}
use Rattle.field_writing.specs.Wire.{optional, body}
use Rattle.writing.specs.Wire.{header, wire}
use Rattle.readable.specs.Readable.{readable, all_fit, fits}
use Rattle.packet_laws.specs.Again.{ReadsAs, ReadBack}
use Rattle.octets.proofs.Numbers.{be16_first, be32_first, be16_back, be32_back}
use Rattle.message.proofs.Paddings.{padded_whole, padded-most}
use Rattle.packet_laws.proofs.Fits.{agrees}
use Rattle.packet_laws.proofs.Places.{Stands, octet_back, word_back, number_back, queue_back, part_back, cause_back}
use Rattle.packet_laws.proofs.Walk.{first_of, Walked, all_listed, ascends, walk, length_laid}

-- the first octet gives back the type and the Ack bit
record FirstBack (octet : ℕ) (asks : Bool) (n : ℕ) : Type 0 where
  version : octet / 64 ≡ 2
  pad : octet / 32 % 2 ≡ 0
  ack : eqb (octet / 16 % 2) 1 ≡ asks
  type : octet % 16 ≡ n

first_back : (ack : Bool) (n : ℕ) → n < 16 → FirstBack (128 + (when ack then 16 else 0) + n) ack n
unfolding when◌then◌else◌
first_back true n h =
    let a : (128 + 16 + n) / 16 % 2 ≡ 1 = omega arith in
    record { version = omega arith; pad = omega arith; ack = rw a; type = omega arith }
first_back false n h =
    let a : (128 + 0 + n) / 16 % 2 ≡ 0 = omega arith in
    record { version = omega arith; pad = omega arith; ack = rw a; type = omega arith }

-- the fields fill whole words, and there are never more than 1,024 octets of them and the head
optional_words : (i : ℕ) (o : Option (List ℕ)) → length (optional i o) % 4 ≡ 0
unfolding optional
optional_words i None = refl
optional_words i (Some c) = rw length_laid (padded_whole (length_of i c))

body_words : (fs : List Field) → length (body fs) % 4 ≡ 0
unfolding body
body_words [] = refl
body_words (f ∷ fs) = rw length-append (omega (arith, optional_words f.id f.content, body_words fs))

unfoldable most : List Field → ℕ
most [] = 0
most (f ∷ fs) = (row_of f.id).greatest + 5 + most fs

within : (i : ℕ) (o : Option (List ℕ)) → fits i o ≡ true → length (optional i o) ≤ (row_of i).greatest + 5
unfolding optional
within i None e = omega arith
within i (Some c) e =
    let l : length_of i c ≤ (row_of i).greatest = (agrees i (length_of i c) (be16 c 0) (not-true _ e)).greatest in
    rw length_laid (omega (arith, padded-most (length_of i c)))

body-within : (fs : List Field) → all_fit fs ≡ true → length (body fs) ≤ most fs
unfolding body most all_fit
body-within [] e = omega arith
body-within (f ∷ fs) e =
    rw length-append
    (omega (
      arith,
      within f.id f.content (and_left (fits f.id f.content) (all_fit fs) e),
      body-within fs (and_right (fits f.id f.content) (all_fit fs) e),
    ))

-- a message's fields, read where they stand
fields_back : (m : Message) (src s : List ℕ) (k : MessageType) (start : ℕ → ℕ) →
    ((i : ℕ) → Stands s i (first_of (fields_of m src) i) (start i))
    → fields_of (message_at k s start) s ≡ fields_of m src
unfolding message_at first_of when◌then◌else◌ row_in
fields_back m src s k start h =
    λ j.
    field 0 (octet_back s 0 (start 0) m.priority (h 0) j)
    ∷ field 1 (word_back s 1 (start 1) m.duration (h 1) j)
    ∷ field 2 (cause_back s src 2 (start 2) m.cause refl (h 2) j)
    ∷ field 3 (queue_back s 3 (start 3) m.queue (h 3) j)
    ∷ field 4 (part_back s src 4 (start 4) m.granted refl (h 4) j)
    ∷ field 5 (word_back s 5 (start 5) m.permission (h 5) j)
    ∷ field 6 (part_back s src 6 (start 6) m.user refl (h 6) j)
    ∷ field 8 (word_back s 8 (start 8) m.sequence (h 8) j)
    ∷ field 10 (word_back s 10 (start 10) m.source (h 10) j)
    ∷ field 12 (octet_back s 12 (start 12) m.message_type (h 12) j)
    ∷ field 13 (word_back s 13 (start 13) m.indicator (h 13) j)
    ∷ field 14 (number_back s 14 (start 14) m.ssrc_field (h 14) j)
    ∷ []

-- a packet that passes checks 1 to 8 is judged by its fields
judged-next : (s : List ℕ) (k : MessageType) → Opened s k → reading s ≡ judged k s (fields_in s)
unfolding reading
judged-next s k o = rw (opens s k o)

-- the octets of a message that the writer accepts: the head, the walk, and the message that they read as
module _ (m : Message) (src : List ℕ) (e : readable m src ≡ true) where
  abbrev s : List ℕ
  s = wire (said m src)

  fit : all_fit (fields_of m src) ≡ true
  unfolding readable said
  fit =
      and_right (lies m src) (all_fit (fields_of m src))
      (and_left (lies m src && all_fit (fields_of m src)) (complete (said m src)) e)

  whole_message : complete (said m src) ≡ true
  unfolding readable
  whole_message = and_right (lies m src && all_fit (said m src).fields) (complete (said m src)) e

  first : FirstBack (128 + (when m.ack then 16 else 0) + type_number m.kind) m.ack (type_number m.kind)
  first = first_back m.ack (type_number m.kind) (omega (arith, type_small m.kind))

  words_told : be16 s length_place ≡ (header_size + length (body (fields_of m src))) / 4 - 1
  unfolding wire header headed first_octet said octets16 octets32
  words_told = be16_first s _ 2 refl ∙ be16_back ((header_size + length (body (fields_of m src))) / 4 - 1) _

  ssrc_told : be32 s ssrc_place ≡ m.ssrc
  unfolding wire header headed first_octet said octets16 octets32
  ssrc_told = be32_first s _ 4 refl ∙ be32_back m.ssrc _

  its_head : Opened s m.kind
  unfolding wire header headed first_octet said octets16 octets32 ends most row_in when◌then◌else◌
  its_head =
      let b : length (body (fields_of m src)) ≤ 461 = body-within (fields_of m src) fit in
      let w : length (body (fields_of m src)) % 4 ≡ 0 = body_words (fields_of m src) in
      record {
        long = omega arith;
        short = omega arith;
        two = first.version;
        plain = λ q. let z = first.pad in omega arith;
        application = refl;
        measured = rw words_told (omega arith);
        called = unfold be32 be16 in refl;
        type = rw first.type (type_back m.kind);
      }

  walked : Walked s (fields_of m src) (fields_in s)
  unfolding fields_in among wire header headed first_octet said octets16 octets32 all_listed listed_in when◌then◌else◌ ascends
  walked = walk s (fields_of m src) [] 0 (length s) header_size refl refl fit (λ i h. refl) refl (omega arith)

  same_told : (start : ℕ → ℕ) → ((i : ℕ) → Stands s i (first_of (fields_of m src) i) (start i))
      → said (message_at m.kind s start) s ≡ said m src
  unfolding said message_at wire header headed first_octet
  same_told start h =
      λ j. record { kind = m.kind; ack = first.ack j; ssrc = ssrc_told j; fields = fields_back m src s m.kind start h j }

  back : ReadsAs s (said m src)
  back =
      let found : List FieldFound = walked.found in
      let m' : Message = message_at m.kind s (start_of found) in
      let q : said m' s ≡ said m src = same_told (start_of found) walked.stands in
      record {
        message = m';
        read =
            judged-next s m.kind its_head
            ∙ rw walked.all (if_yes (complete (said m' s)) (result m') (refused 11) (ap complete q ∙ whole_message));
        same = q;
      }

pub read_back : ReadBack
read_back m src e = back m src e
