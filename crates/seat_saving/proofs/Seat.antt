-- What a taken seat and a free one put on the sheet, and a seat's octets as they are put one after the other. Assumes nothing.
use Prim.Native.Nat.{ℕ, zero, suc}
use mathlib.Core.Bool.{true, false}
use mathlib.Core.List.{List, [], ◌∷◌, ◌++◌}
use mathlib.Core.Path.{◌≡◌, refl, ap}
use lib.ListN.{length, take}
use Rattle.words.specs.Choice.{when◌then◌else◌, if_yes, if_no}
use Rattle.octets.specs.Octets.{octets16, octets32, part}
use Rattle.hall.specs.declared.Hall.{Hall}
use Rattle.hall.specs.declared.Newcomer.{Newcomer}
use Rattle.hall.specs.Seats.{is_present}
use Rattle.identities.specs.declared.Name.{Name}
use Rattle.identities.specs.declared.Names.{Names}
use Rattle.identities.specs.Identity.{octets_of}
use Rattle.seat_octets.specs.Layout.{flags_octet}
use Rattle.sheet.specs.Layout.{octets_of_seat, seat_at}
use Rattle.seat_saving.specs.Seat.{octets_at_seat}

-- what a proof about a seat of the hall opens
unfoldable pub opened : Type 0
unfolding octets_at_seat when◌then◌else◌
opened = ℕ

module _ (h : Hall) (ns : Names) where
  pub taken : (s : ℕ) → is_present h s ≡ true → octets_at_seat h ns s ≡ octets_of_seat (seat_at h ns s)
  unfolding octets_at_seat
  taken s e = if_yes _ _ _ e

  pub free : (s : ℕ) → is_present h s ≡ false → octets_at_seat h ns s ≡ []
  unfolding octets_at_seat
  free s e = if_no _ _ _ e

-- a name's octets as a part of its array
pub name-part : (n : Name) → part n.octets 0 (length (octets_of n)) ≡ octets_of n
unfolding octets_of part
name-part n = prefix n.len n.octets
  where
    prefix : (k : ℕ) (l : List ℕ) → take (length (take k l)) l ≡ take k l
    prefix zero l = refl
    prefix (suc k) [] = refl
    prefix (suc k) (x ∷ l) = ap (λ (r : List ℕ). x ∷ r) (prefix k l)

-- a seat's octets as they are put one after the other
pub seat_made : (w : Newcomer) (name : Name) (fl n : ℕ) → fl ≡ flags_octet w.flags → n ≡ length (octets_of name)
    → (((fl ∷ w.highest ∷ []) ++ octets32 w.ssrc) ++ (n ∷ [])) ++ part name.octets 0 n
    ≡ octets_of_seat (record { who = w; identity = octets_of name })
unfolding octets_of_seat octets32 octets16
seat_made w name fl n e f = rw (e, f, name-part name)
