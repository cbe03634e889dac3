-- A seat's identity in its octets: its length, what stands at each place, the zeros behind it; and when two are the same.
-- Assumes nothing.
use Rattle.octets.specs.Octets.{nth_octet}
use Rattle.desk_octets.specs.Places.{identities_column}
use Prim.Native.Nat.{ℕ, ◌+◌, ◌*◌, ◌-◌, ◌≤◌, ◌<◌}
use mathlib.Core.Path.{◌≡◌, ap, sym, ◌∙◌}
use mathlib.Core.Bool.{true, ◌&&◌}
use mathlib.Core.List.{List}
use native.Mathlib.Omega.{arith}
use lib.Dec.{eqb, leb, ltb}
use lib.ListN.{length, get_or, length-take}
use lib.Seq.{get_or-take, ext_get_or}
use borrow.Author.Tests.{eqb-true, eq-eqb, le-leb, ltb-true, ltb-false, le-ltb}
use Rattle.words.specs.Choice.{by_test}
use Rattle.words.specs.Below.{all_below, below, and_left, and_right}
use Rattle.words.proofs.Tests.{both, or_left, or_right, or_else}
use Rattle.identities.specs.declared.Name.{Name}
use Rattle.identities.specs.Identity.{octets_of, name_at, same}
use Rattle.desk_octets.specs.Columns.{column}
use Rattle.desk_octets.specs.Form.{name_in, names_at, up_to}
use Rattle.desk_octets.proofs.Columns.{length-column, get_d_column}
use Rattle.desk_octets.proofs.Facts.{up_to_lem}
use Rattle.desk_octets.proofs.Pieces.{name_of_seat}
use Rattle.seats_test.specs.Seats.{octet_behind, name_sound}
use Rattle.desk_octets.proofs.Tests.{all_below_lem, together}
use Rattle.seats_test.proofs.Same.{same_is}
use Rattle.identities.proofs.Same.{same_self}
use Rattle.seats_test.specs.Seated.{name_length_at, identity_start, zeros_behind}
use Rattle.identity_octets.specs.Identity.{agree, same_octets}

-- the octets of a seat's identity
module _ (s : List ℕ) (seat : ℕ) (b : seat < 16) (fits : name_length_at s seat ≤ 62) where
  abbrev octets : List ℕ
  octets = octets_of (name_at (names_at s) seat)

  name_is : name_at (names_at s) seat ≡ name_in s seat
  name_is = name_of_seat s seat b

  row_at : (i : ℕ) → i < 62 → get_or (name_in s seat).octets i 0 ≡ nth_octet s (identity_start seat + i)
  unfolding name_in
  row_at i h = get_d_column (nth_octet s) (identities_column + 62 * seat) 62 i 0 h

  in_length : length (octets_of (name_in s seat)) ≡ name_length_at s seat
  unfolding octets_of name_in
  in_length =
      omega (
        arith,
        length-take (name_length_at s seat) (column (nth_octet s) (identities_column + 62 * seat) 62),
        length-column (nth_octet s) (identities_column + 62 * seat) 62,
      )

  in_at : (i : ℕ) → i < name_length_at s seat → get_or (octets_of (name_in s seat)) i 0 ≡ nth_octet s (identity_start seat + i)
  unfolding octets_of name_in
  in_at i h = get_or-take (name_length_at s seat) (column (nth_octet s) (identities_column + 62 * seat) 62) i 0 h ∙ row_at i (omega arith)

  pub octets-length : length octets ≡ name_length_at s seat
  octets-length = ap (λ (n : Name). length (octets_of n)) name_is ∙ in_length

  pub octets-at : (i : ℕ) → i < name_length_at s seat → get_or octets i 0 ≡ nth_octet s (identity_start seat + i)
  octets-at i h = ap (λ (n : Name). get_or (octets_of n) i 0) name_is ∙ in_at i h

  -- zeros behind it
  abbrev Zeros : Type 0
  Zeros = (i : ℕ) → i < 62 → name_length_at s seat ≤ i → nth_octet s (identity_start seat + i) ≡ 0

  behind_zeros : zeros_behind s seat ≡ true → Zeros
  unfolding zeros_behind
  behind_zeros q i h k =
      let e : identity_start seat + name_length_at s seat + (i - name_length_at s seat) ≡ identity_start seat + i = omega arith in
      let l : nth_octet s (identity_start seat + name_length_at s seat + (i - name_length_at s seat)) ≤ 0 =
      up_to_lem 0 s (identity_start seat + name_length_at s seat) (62 - name_length_at s seat) q (i - name_length_at s seat)
      (omega arith) in
      ap (nth_octet s) (sym e) ∙ omega arith

  zeros_behind_lem : Zeros → zeros_behind s seat ≡ true
  unfolding zeros_behind up_to
  zeros_behind_lem z =
      all_below_lem (λ j. leb (nth_octet s (identity_start seat + name_length_at s seat + j)) 0) (62 - name_length_at s seat)
      (λ i h. let e : identity_start seat + name_length_at s seat + i ≡ identity_start seat + (name_length_at s seat + i) = omega arith in
      let y : nth_octet s (identity_start seat + name_length_at s seat + i) ≡ 0 =
      ap (nth_octet s) e ∙ z (name_length_at s seat + i) (omega arith) (omega arith) in
      le-leb (nth_octet s (identity_start seat + name_length_at s seat + i)) 0 (omega arith))

  len_is : (name_in s seat).len ≡ length (octets_of (name_in s seat))
  unfolding name_in
  len_is = sym in_length

  in_sound : zeros_behind s seat ≡ name_sound (name_in s seat)
  unfolding name_sound octet_behind
  in_sound =
      together (zeros_behind s seat) (name_sound (name_in s seat))
      (λ q. both (eqb (name_in s seat).len (length (octets_of (name_in s seat)))) (all_below (octet_behind (name_in s seat)) 62)
      (eq-eqb _ _ len_is)
      (all_below_lem (octet_behind (name_in s seat)) 62
      (λ i h. by_test (ltb i (length (octets_of (name_in s seat))))
      (λ t. or_left (ltb i (length (octets_of (name_in s seat)))) (eqb (get_or (name_in s seat).octets i 0) 0) t)
      (λ t. or_right (ltb i (length (octets_of (name_in s seat)))) (eqb (get_or (name_in s seat).octets i 0) 0)
      (eq-eqb _ _ (row_at i h ∙ behind_zeros q i h (omega (arith, in_length, ltb-false i (length (octets_of (name_in s seat))) t))))))))
      (λ q. zeros_behind_lem (λ i h k. sym (row_at i h)
      ∙ eqb-true _ _ (or_else (ltb i (length (octets_of (name_in s seat)))) (eqb (get_or (name_in s seat).octets i 0) 0)
      (le-ltb i (length (octets_of (name_in s seat))) (omega (arith, in_length)))
      (below (octet_behind (name_in s seat)) 62
      (and_right (eqb (name_in s seat).len (length (octets_of (name_in s seat)))) (all_below (octet_behind (name_in s seat)) 62) q) i h))))

  pub name_sound_lem : zeros_behind s seat ≡ name_sound (name_at (names_at s) seat)
  name_sound_lem = in_sound ∙ ap name_sound (sym name_is)

-- two identities with zeros behind them are the same exactly if their lengths and their sixty_two octets are
module _ (s : List ℕ) (t u : ℕ) (b : t < 16) (d : u < 16) (e : name_length_at s t ≤ 62) (f : name_length_at s u ≤ 62) where
  lists_same : name_length_at s t ≡ name_length_at s u → same_octets s (identity_start t) (identity_start u) ≡ true →
      octets s t b e ≡ octets s u d f
  unfolding same_octets
  lists_same l q =
      ext_get_or 0 (octets s t b e) (octets s u d f) (octets-length s t b e ∙ l ∙ sym (octets-length s u d f))
      (λ i h. let k : i < name_length_at s t = rw (octets-length s t b e) at h in
      octets-at s t b e i k ∙ eqb-true _ _ (below (agree s (identity_start t) (identity_start u)) 62 q i (omega arith))
      ∙ sym (octets-at s u d f i (omega arith)))

  rows_same : Zeros s t b e → Zeros s u d f → octets s t b e ≡ octets s u d f → same_octets s (identity_start t) (identity_start u) ≡ true
  unfolding same_octets
  rows_same y z q =
      let l : name_length_at s t ≡ name_length_at s u = sym (octets-length s t b e) ∙ ap length q ∙ octets-length s u d f in
      all_below_lem (agree s (identity_start t) (identity_start u)) 62
      (λ i h. eq-eqb _ _ (by_test (ltb i (name_length_at s t))
      (λ m. let k : i < name_length_at s t = ltb-true i (name_length_at s t) m in
      sym (octets-at s t b e i k) ∙ ap (λ (o : List ℕ). get_or o i 0) q ∙ octets-at s u d f i (omega arith))
      (λ m. let k : name_length_at s t ≤ i = ltb-false i (name_length_at s t) m in y i h k ∙ sym (z i h (omega arith)))))

  pub names_same : zeros_behind s t ≡ true → zeros_behind s u ≡ true →
      (eqb (name_length_at s t) (name_length_at s u) && same_octets s (identity_start t) (identity_start u))
      ≡ same (octets s t b e) (octets s u d f)
  names_same y z =
      together (eqb (name_length_at s t) (name_length_at s u) && same_octets s (identity_start t) (identity_start u))
      (same (octets s t b e) (octets s u d f))
      (λ q. let o = lists_same
      (eqb-true _ _ (and_left (eqb (name_length_at s t) (name_length_at s u)) (same_octets s (identity_start t) (identity_start u)) q))
      (and_right (eqb (name_length_at s t) (name_length_at s u)) (same_octets s (identity_start t) (identity_start u)) q) in
      ap (λ (x : List ℕ). same x (octets s u d f)) o ∙ same_self (octets s u d f))
      (λ q. let o = same_is (octets s t b e) (octets s u d f) q in
      both (eqb (name_length_at s t) (name_length_at s u)) (same_octets s (identity_start t) (identity_start u))
      (eq-eqb _ _ (sym (octets-length s t b e) ∙ ap length o ∙ octets-length s u d f))
      (rows_same (behind_zeros s t b e y) (behind_zeros s u d f z) o))
