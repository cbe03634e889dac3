-- The whole packet out of its three runs, the header and the two halves of the fields, each laid where the one before it ends.
--     refused_12, refused_13   what is answered where nothing is laid
--     front_fits, rest-fits    each run has room
--     laid_whole               the three runs are the packet
-- Assumes nothing.
use Prim.Native.Nat.{ℕ, ◌+◌, ◌≤◌, ◌<◌}
use native.Mathlib.Omega.{arith}
use mathlib.Core.Bool.{true, false}
use mathlib.Core.List.{List, ◌++◌}
use mathlib.Core.Path.{◌≡◌, sym, ap, ◌∙◌}
use lib.ListN.{length}
use Rattle.octets.specs.Octets.{over, Laid}
use Rattle.message.specs.Message.{said}
use Rattle.message.specs.Answers.{refused, result}
use Rattle.message.specs.declared.Message.{Message}
use Rattle.writing.specs.Wire.{header, wire}
use Rattle.field_writing.specs.Wire.{body}
use Rattle.header.specs.Header.{header_size, longest_packet, headed, first_octet}
use Rattle.readable.specs.Readable.{readable}
use Rattle.writing.specs.Writing.{writing, written}
use Rattle.writing.specs.Puts.{front_fields, rest_fields, front_size, rest_size}
use Rattle.octets.proofs.Lays.{lay_fits, lay_rest, lay_join, lay_as}
use Rattle.writing.proofs.Lengths.{halves, header_is, wire-length, body-length, header-length, wire_whole}
use Rattle.readable.proofs.Fits.{held_by}
use Rattle.writing.proofs.Ways.{unreadable, roomless, accepted, untouched, overwritten}

pub refused_12 : (m : Message) (src room : List ℕ) → readable m src ≡ false
    → (refused 12 ≡ writing m src (length room)) × (room ≡ written m src room)
refused_12 m src room r = let e = unreadable m src room r in (sym e, sym (untouched m src room e))

abbrev halved : Message → List ℕ → List ℕ
halved m src = header (said m src) ++ (body (front_fields m src) ++ body (rest_fields m src))

wire_is : (m : Message) (src : List ℕ) → halved m src ≡ wire (said m src)
unfolding wire said
wire_is m src = ap (λ (xs : List ℕ). header (said m src) ++ xs) (sym (halves m src))

module _ (m : Message) (src room : List ℕ) (r : readable m src ≡ true) {size : ℕ} (s : size ≡ header_size + (front_size m + rest_size m))
  where
    size_is : size ≡ length (wire (said m src))
    size_is = s ∙ sym (wire-length m src (held_by m src r))

    pub size_whole : (header_size ≤ size) × (size ≤ longest_packet)
    size_whole = let w = wire_whole m src r in let n = size_is in (omega (arith, w.least), omega (arith, w.most))

    pub refused_13 : length room < size → (refused 13 ≡ writing m src (length room)) × (room ≡ written m src room)
    refused_13 h = let e = roomless m src room r (let n = size_is in omega arith) in (sym e, sym (untouched m src room e))

    module _ (h : size ≤ length room) {room₁ : List ℕ} (e : room₁ ≡ over room 0 (headed (first_octet m.kind m.ack) m.ssrc size)) where
      fits : 0 + length (halved m src) ≤ length room
      fits = let q = ap length (wire_is m src) in let n = size_is in omega arith

      header_laid : Laid room 0 (header (said m src)) room₁ header_size
      header_laid =
          let k = s ∙ ap (λ (n : ℕ). header_size + n) (sym (body-length m src (held_by m src r))) in
          record {
            ends = omega (arith, header-length (said m src));
            stands =
                e
                ∙ ap (λ (n : ℕ). over room 0 (headed (first_octet m.kind m.ack) m.ssrc n)) k
                ∙ ap (over room 0) (header_is m src);
          }

      halves_fit : header_size + length (body (front_fields m src) ++ body (rest_fields m src)) ≤ length room₁
      halves_fit = lay_rest (body (front_fields m src) ++ body (rest_fields m src)) fits header_laid

      pub front_fits : header_size + length (body (front_fields m src)) ≤ length room₁
      front_fits = lay_fits room₁ header_size (body (front_fields m src)) (body (rest_fields m src)) halves_fit

      module _ {room₂ : List ℕ} {at : ℕ} (l : Laid room₁ header_size (body (front_fields m src)) room₂ at) where
        pub rest-fits : at + length (body (rest_fields m src)) ≤ length room₂
        rest-fits = lay_rest (body (rest_fields m src)) halves_fit l

        pub laid_whole : {room₃ : List ℕ} {end : ℕ} → Laid room₂ at (body (rest_fields m src)) room₃ end
            → (result size ≡ writing m src (length room)) × (room₃ ≡ written m src room)
        laid_whole k =
            let n = size_is in
            let a = accepted m src room r (omega arith) in
            let w = lay_as (wire_is m src) (lay_join fits header_laid (lay_join halves_fit l k)) in
            (ap result n ∙ sym a, w.stands ∙ sym (overwritten m src room a))
