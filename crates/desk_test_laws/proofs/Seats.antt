-- The seats pass their test exactly if they are sound. Assumes nothing.
use Prim.Native.Nat.{ℕ, suc, ◌≤◌, ◌<◌}
use mathlib.Core.Path.{◌≡◌, refl, ap, sym, ◌∙◌}
use mathlib.Core.Bool.{Bool, true, false, not}
use mathlib.Core.List.{List, [], ◌∷◌}
use native.Mathlib.Omega.{arith}
use lib.Dec.{eqb, ltb}
use lib.ListN.{length, get_or, get_or-eq_default}
use borrow.Author.Tests.{eqb-true, eqb-false, eq-eqb, ne_eqb, ltb-true, ltb-false, not-true}
use Rattle.words.specs.Choice.{when◌then◌else◌, if_yes, if_no, by_test}
use Rattle.words.specs.Below.{all_below, below}
use Rattle.words.specs.Table.{padded, padded-length}
use Rattle.words.proofs.Tests.{clash, and_both, and_four, both, four, or_left, or_right, or_else}
use Rattle.hall.specs.declared.Hall.{Hall}
use Rattle.identities.specs.declared.Name.{Name}
use Rattle.identities.specs.declared.Names.{Names}
use Rattle.std.specs.Prelude.{Option, Some, None}
use Rattle.hall.specs.Seats.{is_present, no_flags, flags_at, has_ssrc, seat_of, first_from, in_range, finds}
use Rattle.identities.specs.Identity.{octets_of, name_of, no_name, name_at, same, has_name, seat_named, length_allowed}
use Rattle.hall.proofs.Laws.{at_same, found_holds, none_holds}
use Rattle.identities.proofs.Naming.{no_name_whole}
use Rattle.reach.specs.Sound.{SeatsOk}
use Rattle.reach.proofs.InLine.{within-column}
use Rattle.seats_test.specs.Seats.{octet_behind, name_sound, ssrc_at, taken_sound, free_sound, seat_sound, seats_sound}
use Rattle.desk_test_laws.specs.Typed.{TypedSeats}
use Rattle.desk_octets.proofs.Tests.{all_below_lem}
use Rattle.desk_test_laws.proofs.Filled.{filled-behind, behind-filled}
use Rattle.seats_test.proofs.Same.{finds-at}
use Rattle.identities.proofs.Same.{same_self, found_alike}
use Rattle.hall.specs.declared.Flags.{Flags}
use Rattle.seat_octets.specs.Layout.{flags_octet, flags_of}
use Rattle.seat_octets.proofs.Bits.{flags_back}

-- an identity, with zeros behind it
abbrev name_with : List ℕ → ℕ → Name
name_with a n = record { octets = a; len = n }

name_is : (a o : List ℕ) (n : ℕ) → a ≡ padded 0 62 o → n ≡ length o → name_with a n ≡ name_of o
unfolding name_of
name_is a o n p q = cc

name-from : (n : Name) → length n.octets ≡ 62 → name_sound n ≡ true → n ≡ name_of (octets_of n)
unfolding name_sound octet_behind octets_of
name-from n h q =
    let a = and_both (eqb n.len (length (octets_of n))) (all_below (octet_behind n) 62) q in
    name_is n.octets (octets_of n) n.len
    (filled-behind 0 62 n.len n.octets h
    (λ i b t. eqb-true _ _ (or_else (ltb i (length (octets_of n))) (eqb (get_or n.octets i 0) 0) t (below (octet_behind n) 62 a.1 i b))))
    (eqb-true _ _ a.0)

module _ (n : Name) (k : n ≡ name_of (octets_of n)) where
  octets_are : n.octets ≡ padded 0 62 (octets_of n)
  unfolding name_of
  octets_are = ap (λ (x : Name). x.octets) k

  pub sixty_two : length n.octets ≡ 62
  sixty_two = ap length octets_are ∙ padded-length 0 62 (octets_of n)

  counted : n.len ≡ length (octets_of n)
  unfolding name_of
  counted = ap (λ (x : Name). x.len) k

  name_test : name_sound n ≡ true
  unfolding name_sound octet_behind octets_of
  name_test =
      both (eqb n.len (length (octets_of n))) (all_below (octet_behind n) 62) (eq-eqb _ _ counted)
      (all_below_lem (octet_behind n) 62
      (λ i b. by_test (ltb i (length (octets_of n)))
      (λ t. or_left (ltb i (length (octets_of n))) (eqb (get_or n.octets i 0) 0) t)
      (λ t. or_right (ltb i (length (octets_of n))) (eqb (get_or n.octets i 0) 0)
      (eq-eqb _ _ (behind-filled 0 62 n.len n.octets octets_are i b t)))))

no_octets : (o : List ℕ) → eqb (length o) 0 ≡ true → o ≡ []
no_octets [] q = refl
no_octets (x ∷ o) q = let z : suc (length o) ≡ 0 = eqb-true (length (x ∷ o)) 0 q in absurd (omega arith)

name_none : name_of [] ≡ no_name
unfolding name_of
name_none = refl

none_short : length (octets_of no_name) ≡ 0
unfolding octets_of
none_short = refl

-- what a search finds where no other passes its test
finds-only : (test : ℕ → Bool) (s : ℕ) → s < 16 → test s ≡ true → ((t : ℕ) → test t ≡ true → t ≡ s) → (f : Option ℕ) →
    first_from test 16 0 ≡ f → finds f s ≡ true
finds-only test s b p u (Some t) q = eq-eqb t s (u t (found_holds test 16 0 t q).0)
finds-only test s b p u None q = clash p (none_holds test 16 0 s q (omega arith) (omega arith))

-- an octet of flags is zero exactly if none is set
none_of : flags_of 0 ≡ no_flags
unfolding flags_of
none_of = refl

none_set : (f : Flags) → eqb (flags_octet f) 0 ≡ true → f ≡ no_flags
none_set f q = sym (flags_back f) ∙ ap flags_of (eqb-true (flags_octet f) 0 q) ∙ none_of

no_flags_lem : eqb (flags_octet no_flags) 0 ≡ true
unfolding flags_octet when◌then◌else◌
no_flags_lem = refl

-- a seat's tests, one by one
record TakenOk (h : Hall) (ns : Names) (s : ℕ) : Type 0 where
  pub desk : ssrc_at h s ≡ h.settings.ssrc → ⊥
  pub by_ssrc : seat_of h (ssrc_at h s) ≡ Some s
  pub length : length_allowed (octets_of (name_at ns s)) ≡ true
  pub by_identity : seat_named h ns (octets_of (name_at ns s)) ≡ Some s

module _ (h : Hall) (ns : Names) (s : ℕ) where
  taken_tests : taken_sound h ns s ≡ true →
      (not (eqb (ssrc_at h s) h.settings.ssrc) ≡ true) × (finds (seat_of h (ssrc_at h s)) s ≡ true)
      × (length_allowed (octets_of (name_at ns s)) ≡ true) × (finds (seat_named h ns (octets_of (name_at ns s))) s ≡ true)
  unfolding taken_sound
  taken_tests q = and_four _ _ _ _ q

  taken-from : taken_sound h ns s ≡ true → TakenOk h ns s
  taken-from q =
      let a = taken_tests q in
      record { desk = eqb-false _ _ (not-true _ a.0); by_ssrc = finds-at _ s a.1; length = a.2; by_identity = finds-at _ s a.3 }

  taken_test : SeatsOk h ns → s < 16 → is_present h s ≡ true → taken_sound h ns s ≡ true
  unfolding taken_sound seat_of seat_named
  taken_test k b p =
      four _ _ _ _ (ap not (ne_eqb _ _ (k.desk s p)))
      (finds-only (has_ssrc h (ssrc_at h s)) s b
      (both (is_present h s) (eqb (ssrc_at h s) (ssrc_at h s)) p (eq-eqb (ssrc_at h s) (ssrc_at h s) refl))
      (λ t q. let a = and_both (is_present h t) (eqb (ssrc_at h t) (ssrc_at h s)) q in k.ssrcs t s a.0 p (eqb-true _ _ a.1))
      _ refl)
      (k.lengths s p)
      (finds-only (has_name h ns (octets_of (name_at ns s))) s b
      (both (is_present h s) (same (octets_of (name_at ns s)) (octets_of (name_at ns s))) p (same_self (octets_of (name_at ns s))))
      (λ t q. let a = and_both (is_present h t) (same (octets_of (name_at ns t)) (octets_of (name_at ns s))) q in
      k.identities t s a.0 p a.1)
      _ refl)

  free_tests : free_sound h ns s ≡ true →
      (eqb (ssrc_at h s) 0 ≡ true) × (eqb (get_or h.highest s 0) 0 ≡ true) × (eqb (flags_octet (flags_at h s)) 0 ≡ true)
      × (eqb (length (octets_of (name_at ns s))) 0 ≡ true)
  unfolding free_sound
  free_tests q = and_four _ _ _ _ q

  abbrev FreeOk : Type 0
  FreeOk = (get_or h.ssrcs s 0 ≡ 0) × (get_or h.highest s 0 ≡ 0) × (flags_at h s ≡ no_flags) × (name_at ns s ≡ no_name)

  free_from : name_at ns s ≡ name_of (octets_of (name_at ns s)) → free_sound h ns s ≡ true → FreeOk
  free_from m q =
      let a = free_tests q in (
        eqb-true _ _ a.0,
        eqb-true _ _ a.1,
        none_set (flags_at h s) a.2,
        m ∙ ap name_of (no_octets (octets_of (name_at ns s)) a.3) ∙ name_none,
      )

  free_test : FreeOk → free_sound h ns s ≡ true
  unfolding free_sound
  free_test k =
      four _ _ _ _ (eq-eqb _ _ k.0) (eq-eqb _ _ k.1) (ap (λ (f : Flags). eqb (flags_octet f) 0) k.2 ∙ no_flags_lem)
      (eq-eqb _ _ (ap (λ (n : Name). length (octets_of n)) k.3 ∙ none_short))

-- all seats
module _ (h : Hall) (ns : Names) (shaped : TypedSeats h ns) (q : seats_sound h ns ≡ true) where
  tests : (in_range h.settings ≡ true) × (all_below (seat_sound h ns) 16 ≡ true)
  unfolding seats_sound
  tests = and_both (in_range h.settings) (all_below (seat_sound h ns) 16) q

  module _ (s : ℕ) (b : s < 16) where
    seat : (name_sound (name_at ns s) ≡ true) × ((when is_present h s then taken_sound h ns s else free_sound h ns s) ≡ true)
    unfolding seat_sound
    seat =
        and_both (name_sound (name_at ns s)) (when is_present h s then taken_sound h ns s else free_sound h ns s)
        (below (seat_sound h ns) 16 tests.1 s b)

    whole_there : name_at ns s ≡ name_of (octets_of (name_at ns s))
    whole_there = name-from (name_at ns s) (shaped.octets s b) seat.0

    free_there : is_present h s ≡ false → FreeOk h ns s
    free_there p = free_from h ns s whole_there (sym (if_no _ _ _ p) ∙ seat.1)

  module _ (s : ℕ) (p : is_present h s ≡ true) where
    taken : TakenOk h ns s
    taken =
        let b : s < 16 = omega (arith, within-column h.present s p, shaped.columns.0) in
        taken-from h ns s (sym (if_yes _ _ _ p) ∙ (seat s b).1)

  module _ (s : ℕ) (t : ltb s 16 ≡ false) where
    past : {A : Type 0} (l : List A) (d : A) → length l ≡ 16 → get_or l s d ≡ d
    past l d n = get_or-eq_default l d (let b : 16 ≤ s = ltb-false s 16 t in let z : length l ≤ s = omega arith in z)

    free_past : FreeOk h ns s
    free_past = (
      past h.ssrcs 0 shaped.columns.1,
      past h.highest 0 shaped.columns.2,
      past h.flags no_flags shaped.columns.3,
      past ns.«of» no_name shaped.columns.4,
    )

  pub seats_from_lem : SeatsOk h ns
  seats_from_lem =
      record {
        settings = tests.0;
        columns = shaped.columns;
        ssrcs = λ s t p r e. at_same (sym (taken s p).by_ssrc ∙ ap (seat_of h) e ∙ (taken t r).by_ssrc);
        desk = λ s p e. (taken s p).desk e;
        lengths = λ s p. (taken s p).length;
        behind = λ s. by_test (ltb s 16) (λ t. whole_there s (ltb-true s 16 t)) (λ t. rw (free_past s t).3 no_name_whole);
        identities = λ s t p r e. at_same (sym (taken s p).by_identity ∙ found_alike h ns _ _ e ∙ (taken t r).by_identity);
        free = λ s p. by_test (ltb s 16) (λ t. free_there s (ltb-true s 16 t) p) (λ t. free_past s t);
      }

pub seats_test_lem : (h : Hall) (ns : Names) → SeatsOk h ns → seats_sound h ns ≡ true
unfolding seats_sound seat_sound
seats_test_lem h ns k =
    both (in_range h.settings) (all_below (seat_sound h ns) 16) k.settings
    (all_below_lem (seat_sound h ns) 16
    (λ s b. both (name_sound (name_at ns s)) (when is_present h s then taken_sound h ns s else free_sound h ns s)
    (name_test (name_at ns s) (k.behind s))
    (by_test (is_present h s)
    (λ p. if_yes _ _ _ p ∙ taken_test h ns s k b p)
    (λ p. if_no _ _ _ p ∙ free_test h ns s (k.free s p)))))
