-- What was read from a sheet, written again, is what stood there: a seat, all seats, and the trailer. Assumes nothing.
use Prim.Native.Nat.{ℕ, zero, suc, ◌+◌, ◌≤◌}
use native.Mathlib.Nat.{add-zero, add_assoc}
use native.Mathlib.Omega.{arith}
use mathlib.Core.Bool.{Bool, true, false}
use mathlib.Core.List.{List, [], ◌∷◌, ◌++◌, append_assoc, append-nil}
use mathlib.Core.Path.{◌≡◌, refl, sym, ap, ◌∙◌}
use Rattle.std.proofs.Common.{Option, Some, None}
use Rattle.std.specs.Option.{option_map}
use lib.Dec.{leb, eqb}
use lib.ListN.{length, get_or, take, drop, length-drop}
use lib.Seq.{drop-drop, take-add, take_all}
use borrow.Author.Tests.{leb-true, eqb-true}
use Rattle.words.specs.Choice.{when◌then◌else◌, by_test}
use Rattle.words.specs.Below.{and_right}
use Rattle.octets.specs.Octets.{be16, octets16, octets32, part, Octets}
use Rattle.octets.proofs.Over.{length_part}
use Rattle.seat_octets.specs.Layout.{flags_octet, flags_top}
use Rattle.seat_octets.proofs.Numbers.{run, run_is, word_back, long_back}
use Rattle.seat_octets.proofs.Bits.{flags_forth}
use Rattle.sheet.specs.Layout.{Seat, trailer_size, tail_size, octets_of_seat, seats_octets, trailer}
use Rattle.sheet.specs.Framing.{settings_place, trailer_place, settings_offset, seats_offset, seat_count, form_of, letters_of}
use Rattle.sheet.proofs.Frames.{Framed}
use Rattle.loading.specs.Loading.{identity_length, after_seat, who_is, read_seat, laid_out, read_seats}
use Rattle.loading.proofs.Loads.{laid_fits}

module _ (s : List ℕ) (octets : Octets s) where
  -- the trailer, from what it says
  abbrev frame : ℕ → ℕ → ℕ → ℕ → ℕ → List ℕ
  frame at seats count f ls = octets16 at ++ octets16 seats ++ count ∷ f ∷ octets16 ls

  frame-run : (t : ℕ) → frame (be16 s (t + 0)) (be16 s (t + 2)) (get_or s (t + 4) 0) (get_or s (t + 5) 0) (be16 s (t + 6)) ≡ run s t 0 8
  frame-run t = rw (word_back s octets t 0, word_back s octets t 2, word_back s octets t 6)

  pub trailer_back : Framed s → (at count : ℕ) → at ≡ settings_offset s → count ≡ seat_count s → trailer at count ≡ drop (trailer_place s) s
  unfolding trailer
  trailer_back k at count e f =
      let t = trailer_place s in
      let long : tail_size ≤ length s = k.long in
      rw (e, f, ← k.formed, ← k.lettered)
      (ap (λ (x : ℕ). frame (settings_offset s) x (seat_count s) (form_of s) (letters_of s)) (sym k.first)
      ∙ ap (λ (m : ℕ). frame (be16 s m) (seats_offset s) (seat_count s) (form_of s) (letters_of s)) (sym (add-zero t))
      ∙ frame-run t ∙ run_is s t 0 trailer_size (omega arith)
      ∙ take_all trailer_size (drop (t + 0) s) (rw (length-drop (t + 0) s) (omega arith))
      ∙ ap (λ (m : ℕ). drop m s) (add-zero t))

  laid_flags : (at : ℕ) → laid_out s at ≡ true → get_or s at 0 ≤ flags_top
  unfolding laid_out
  laid_flags at e =
      leb-true (get_or s at 0) flags_top (and_right (leb (after_seat s at) (settings_place s)) (leb (get_or s at 0) flags_top) e)

  seat_run : (at : ℕ) →
      get_or s (at + 0) 0 ∷ (who_is s at).highest ∷ octets32 (who_is s at).ssrc
      ++ identity_length s at ∷ part s (at + 7) (identity_length s at)
      ≡ run s at 0 7 ++ part s (at + 7) (identity_length s at)
  unfolding who_is
  seat_run at = rw (long_back s octets at 2)

  flags_written : (at : ℕ) → laid_out s at ≡ true → flags_octet (who_is s at).flags ≡ get_or s at 0
  unfolding who_is
  flags_written at e = flags_forth (get_or s at 0) (laid_flags at e)

  module _ (long : tail_size ≤ length s) where
    seat_heads : (at : ℕ) → laid_out s at ≡ true → octets_of_seat (read_seat s at) ≡ run s at 0 7 ++ part s (at + 7) (identity_length s at)
    unfolding octets_of_seat read_seat
    seat_heads at e =
        let fits : after_seat s at ≤ settings_place s = laid_fits s at e in
        let f : flags_octet (who_is s at).flags ≡ get_or s (at + 0) 0 =
        flags_written at e ∙ ap (λ (i : ℕ). get_or s i 0) (sym (add-zero at)) in
        let l : length (part s (at + 7) (identity_length s at)) ≡ identity_length s at =
        length_part s (at + 7) (identity_length s at) (omega arith) in
        rw (f, l) (seat_run at)

    seat_back : (at : ℕ) → laid_out s at ≡ true → take at s ++ octets_of_seat (read_seat s at) ≡ take (after_seat s at) s
    unfolding part
    seat_back at e =
        let n = identity_length s at in
        let fits : after_seat s at ≤ settings_place s = laid_fits s at e in
        let heads : run s at 0 7 ≡ take 7 (drop at s) =
        run_is s at 0 7 (omega arith) ∙ ap (λ (m : ℕ). take 7 (drop m s)) (add-zero at) in
        ap (λ (o : List ℕ). take at s ++ o)
        (seat_heads at e ∙ ap (λ (o : List ℕ). o ++ take n (drop (at + 7) s)) heads
        ∙ ap (λ (d : List ℕ). take 7 (drop at s) ++ take n d) (sym (drop-drop 7 at s)) ∙ sym (take-add 7 n (drop at s)))
        ∙ sym (take-add at (7 + n) s) ∙ ap (λ (m : ℕ). take m s) (sym (add_assoc at 7 n))

    -- all seats from a place on
    pub record Back (n at : ℕ) (zs : List Seat) : Type 0 where
      pub count : length zs ≡ n
      pub written : take at s ++ seats_octets zs ≡ take (settings_place s) s

    back_none : (at : ℕ) (zs : List Seat) (t : Bool) → eqb at (settings_place s) ≡ t → (when t then Some [] else None) ≡ Some zs →
        Back 0 at zs
    unfolding when◌then◌else◌ seats_octets
    back_none at zs true q e =
        let z : [] ≡ zs = cc in
        rw (← z) (record { count = refl; written = append-nil (take at s) ∙ ap (λ (m : ℕ). take m s) (eqb-true at (settings_place s) q) })
    back_none at zs false q e = cc

    back_one : (n at : ℕ) (zs : List Seat) (rest : Option (List Seat)) → laid_out s at ≡ true
        → option_map (λ (ys : List Seat). read_seat s at ∷ ys) rest ≡ Some zs
        → ((ys : List Seat) → rest ≡ Some ys → Back n (after_seat s at) ys) → Back (suc n) at zs
    unfolding seats_octets
    back_one n at zs (Some ys) l e next =
        let z : read_seat s at ∷ ys ≡ zs = cc in
        let b = next ys refl in
        rw (← z)
        (record {
          count = ap suc b.count;
          written =
              sym (append_assoc (take at s) (octets_of_seat (read_seat s at)) (seats_octets ys))
              ∙ ap (λ (o : List ℕ). o ++ seats_octets ys) (seat_back at l) ∙ b.written;
        })
    back_one n at zs None l e next = cc

    pub seats_back : (n at : ℕ) (zs : List Seat) → read_seats n s at ≡ Some zs → Back n at zs
    unfolding read_seats when◌then◌else◌
    seats_back zero at zs e = back_none at zs (eqb at (settings_place s)) refl e
    seats_back (suc n) at zs e =
        by_test (laid_out s at)
        (λ l. back_one n at zs (read_seats n s (after_seat s at)) l (rw l at e) (λ ys q. seats_back n (after_seat s at) ys q))
        (λ l. no_seats_lem zs (rw l at e))
      where
        no_seats_lem : (ys : List Seat) → None ≡ Some ys → Back (suc n) at zs
        no_seats_lem ys q = cc
