-- How many octets a message takes.
--     halves        the two halves are the message's fields
--     header_is     the header as the code lays it is the message's
--     wire-length   the sum that the code makes
--     wire_whole    a multiple of 4, at least 12 and at most 440 octets
-- Assumes nothing.
use Prim.Native.Nat.{ℕ, ◌+◌, ◌%◌, ◌≤◌}
use native.Mathlib.Omega.{arith}
use mathlib.Core.Bool.{true}
use mathlib.Core.List.{List, [], ◌++◌}
use mathlib.Core.Path.{◌≡◌, refl}
use lib.ListN.{length, length-append}
use Rattle.words.specs.Choice.{when◌then◌else◌}
use Rattle.message.specs.Table.{row_in}
use Rattle.message.specs.Message.{Said, said, fields_of}
use Rattle.message.specs.declared.Message.{Message}
use Rattle.header.specs.Header.{header_size, longest_packet, first_octet, headed}
use Rattle.header.proofs.Headers.{headed-length}
use Rattle.readable.specs.Readable.{readable}
use Rattle.readable.specs.Fitting.{Short, FieldsFit}
use Rattle.readable.proofs.Fits.{held_by}
use Rattle.field_writing.specs.Wire.{body}
use Rattle.field_writing.proofs.Bodies.{body-append}
use Rattle.field_writing.proofs.Sizes.{Whole, both_whole, octet_whole, word_whole, queue_whole, number_whole, part_whole, cause_whole}
use Rattle.field_writing.proofs.Lengths.{Sized, octet_sized, word_sized, queue_sized, number_sized, part_sized, cause_sized}
use Rattle.writing.specs.Wire.{header, wire}
use Rattle.writing.specs.Puts.{front_fields, rest_fields, front_size, rest_size}

pub halves : (m : Message) (src : List ℕ) → body (fields_of m src) ≡ body (front_fields m src) ++ body (rest_fields m src)
halves m src = body-append (front_fields m src) (rest_fields m src)

pub header_is : (m : Message) (src : List ℕ)
    → headed (first_octet m.kind m.ack) m.ssrc (header_size + length (body (fields_of m src))) ≡ header (said m src)
unfolding header said
header_is m src = refl

module _ (m : Message) (s : Short m) where
  pub front_whole : Whole (front_size m) 340
  front_whole =
      both_whole 336 4 (both_whole 272 64 (both_whole 268 4 (both_whole 8 260 (both_whole 4 4
      (octet_whole m.priority) (word_whole m.duration)) (cause_whole m.cause s.phrase))
      (queue_whole m.queue)) (part_whole m.granted s.granted)) (word_whole m.permission)

  pub rest_whole : Whole (rest_size m) 88
  rest_whole =
      both_whole 80 8 (both_whole 76 4 (both_whole 72 4 (both_whole 68 4 (both_whole 64 4
      (part_whole m.user s.user) (word_whole m.sequence)) (word_whole m.source))
      (octet_whole m.message_type)) (word_whole m.indicator)) (number_whole m.ssrc_field)

six : {a b c d e f : List ℕ} {u v w x y z : ℕ} → Sized a u → Sized b v → Sized c w → Sized d x → Sized e y → Sized f z
    → length (a ++ (b ++ (c ++ (d ++ (e ++ (f ++ [])))))) ≡ u + v + w + x + y + z
six p q r s t o = simp (length-append, p.is, q.is, r.is, s.is, t.is, o.is) (omega arith)

module _ (m : Message) (src : List ℕ) (h : FieldsFit m src) where
  pub front_length : length (body (front_fields m src)) ≡ front_size m
  unfolding body row_in when◌then◌else◌
  front_length =
      six
      (octet_sized 0 refl m.priority)
      (word_sized 1 refl m.duration)
      (cause_sized 2 refl src m.cause h.phrase)
      (queue_sized 3 refl m.queue)
      (part_sized 4 refl src m.granted h.granted)
      (word_sized 5 refl m.permission)

  pub rest-length : length (body (rest_fields m src)) ≡ rest_size m
  unfolding body row_in when◌then◌else◌
  rest-length =
      six
      (part_sized 6 refl src m.user h.user)
      (word_sized 8 refl m.sequence)
      (word_sized 10 refl m.source)
      (octet_sized 12 refl m.message_type)
      (word_sized 13 refl m.indicator)
      (number_sized 14 refl m.ssrc_field)

  pub body-length : length (body (fields_of m src)) ≡ front_size m + rest_size m
  body-length = rw (halves m src, length-append, front_length, rest-length)

pub header-length : (s : Said) → length (header s) ≡ header_size
unfolding header
header-length s = headed-length (first_octet s.kind s.ack) s.ssrc (header_size + length (body s.fields))

pub wire-length : (m : Message) (src : List ℕ) → FieldsFit m src → length (wire (said m src)) ≡ header_size + (front_size m + rest_size m)
unfolding wire said
wire-length m src h = rw (length-append, header-length, body-length m src h)

pub record Packet (octets : List ℕ) : Type 0 where
  pub words : length octets % 4 ≡ 0
  pub least : header_size ≤ length octets
  pub most : length octets ≤ longest_packet

pub wire_whole : (m : Message) (src : List ℕ) → readable m src ≡ true → Packet (wire (said m src))
wire_whole m src r =
    let h = held_by m src r in
    let e = wire-length m src h in
    let w : Whole (front_size m + rest_size m) 428 = both_whole 340 88 (front_whole m h.short) (rest_whole m h.short) in
    record { words = omega (arith, w.whole); least = omega arith; most = omega (arith, w.small) }
