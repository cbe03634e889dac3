-- The seats stay different from each other, and a free seat stays empty, when somebody joins or leaves. Assumes nothing.
use Prim.Native.Nat.{ℕ, ◌<◌}
use mathlib.Core.Path.{◌≡◌, refl, ap, sym, ◌∙◌}
use mathlib.Core.Bool.{Bool, true, false}
use mathlib.Core.List.{List}
use native.Mathlib.Omega.{arith}
use lib.Dec.{eqb, leb}
use lib.ListN.{length, get_or, set, length-set}
use lib.Seq.{get_or-set_same, get_or-set_other}
use borrow.Author.Tests.{eqb-true, eqb-false, leb-true}
use Rattle.words.specs.Choice.{when◌then◌else◌, by_test}
use Rattle.words.proofs.Tests.{and_five}
use Rattle.hall.specs.declared.Hall.{Hall}
use Rattle.hall.specs.declared.Settings.{Settings}
use Rattle.identities.specs.declared.Name.{Name}
use Rattle.identities.specs.declared.Names.{Names}
use Rattle.hall.specs.declared.Newcomer.{Newcomer}
use Rattle.hall.specs.Seats.{is_present, flags_at, no_flags, no_one, in_range, with_seat}
use Rattle.identities.specs.Identity.{octets_of, name_of, no_name, name_at, with_name, same, length_allowed, Sixteen}
use Rattle.reach.specs.Sound.{HallOk, SeatsOk}

-- a seat's value in a column, after a store
pub stored {ℓ} : {A : Type ℓ} (l : List A) (t s : ℕ) (a d : A) → t < length l →
    get_or (set l t a) s d ≡ (when eqb t s then a else get_or l s d)
unfolding when◌then◌else◌
stored l t s a d h =
    by_test (eqb t s)
    (λ q. rw q (ap (λ (n : ℕ). get_or (set l t a) n d) (sym (eqb-true t s q)) ∙ get_or-set_same l t a d h))
    (λ q. rw q (get_or-set_other l t s a d (λ e. eqb-false t s q (sym e))))

-- what the core stands on
pub hall_ok : (h : Hall) (ns : Names) → SeatsOk h ns → HallOk h
unfolding in_range
hall_ok h ns k =
    let a =
    and_five (leb 1 h.settings.level) (leb h.settings.limit 15) (leb 1 h.settings.c7) (leb 1 h.settings.c20)
    (leb 1 h.settings.duration) k.settings in
    record { seats = k.columns.0; limit = leb-true _ _ a.1; c7 = leb-true _ _ a.2; c20 = leb-true _ _ a.3 }

-- one seat is told anew: taken by a newcomer, or vacated
module _ (h : Hall) (ns : Names) (k : SeatsOk h ns) (t : ℕ) (b : t < 16) (here : Bool) (n : Newcomer) (m : Name) where
  pub present_there : is_present (with_seat h t here n) t ≡ here
  unfolding with_seat
  present_there = get_or-set_same h.present t here false (omega (arith, k.columns.0))

  ssrc_there : get_or (with_seat h t here n).ssrcs t 0 ≡ n.ssrc
  unfolding with_seat
  ssrc_there = get_or-set_same h.ssrcs t n.ssrc 0 (omega (arith, k.columns.1))

  name_there : name_at (with_name ns t m) t ≡ m
  unfolding with_name
  name_there = get_or-set_same ns.«of» t m no_name (omega (arith, k.columns.4))

  module _ (s : ℕ) (q : eqb t s ≡ false) where
    apart : s ≡ t → ⊥
    apart e = eqb-false t s q (sym e)

    pub present_else : is_present (with_seat h t here n) s ≡ is_present h s
    unfolding with_seat
    present_else = get_or-set_other h.present t s here false apart

    ssrc_else : get_or (with_seat h t here n).ssrcs s 0 ≡ get_or h.ssrcs s 0
    unfolding with_seat
    ssrc_else = get_or-set_other h.ssrcs t s n.ssrc 0 apart

    name_else : name_at (with_name ns t m) s ≡ name_at ns s
    unfolding with_name
    name_else = get_or-set_other ns.«of» t s m no_name apart

    free_else : (is_present h s ≡ false) →
        (get_or (with_seat h t here n).ssrcs s 0 ≡ 0) × (get_or (with_seat h t here n).highest s 0 ≡ 0)
        × (flags_at (with_seat h t here n) s ≡ no_flags)
        × (name_at (with_name ns t m) s ≡ no_name)
    unfolding with_seat
    free_else f =
        let g = k.free s f in (
          ssrc_else ∙ g.0,
          get_or-set_other h.highest t s n.highest 0 apart ∙ g.1,
          get_or-set_other h.flags t s n.flags no_flags apart ∙ g.2,
          name_else ∙ g.3,
        )

  free_there : n ≡ no_one → m ≡ no_name →
      (get_or (with_seat h t here n).ssrcs t 0 ≡ 0) × (get_or (with_seat h t here n).highest t 0 ≡ 0)
      × (flags_at (with_seat h t here n) t ≡ no_flags)
      × (name_at (with_name ns t m) t ≡ no_name)
  unfolding with_seat
  free_there p q = (
    ssrc_there ∙ ap (λ (x : Newcomer). x.ssrc) p,
    get_or-set_same h.highest t n.highest 0 (omega (arith, k.columns.2)) ∙ ap (λ (x : Newcomer). x.highest) p,
    get_or-set_same h.flags t n.flags no_flags (omega (arith, k.columns.3)) ∙ ap (λ (x : Newcomer). x.flags) p,
    name_there ∙ q,
  )

  -- what must be so of a newcomer, and of a vacated seat
  pub record NewOk : Type 0 where
    pub ssrc : (s : ℕ) → is_present h s ≡ true → get_or h.ssrcs s 0 ≡ n.ssrc → ⊥
    pub desk : n.ssrc ≡ h.settings.ssrc → ⊥
    pub length : length_allowed (octets_of m) ≡ true
    pub before : (s : ℕ) → is_present h s ≡ true → same (octets_of (name_at ns s)) (octets_of m) ≡ true → ⊥
    pub after : (s : ℕ) → is_present h s ≡ true → same (octets_of m) (octets_of (name_at ns s)) ≡ true → ⊥

  module _ (new : here ≡ true → NewOk) (gone : here ≡ false → (n ≡ no_one) × (m ≡ no_name)) (whole : m ≡ name_of (octets_of m)) where
    there : (s : ℕ) → eqb t s ≡ true → is_present (with_seat h t here n) s ≡ true → here ≡ true
    there s q p = sym present_there ∙ ap (is_present (with_seat h t here n)) (eqb-true t s q) ∙ p

    name-at : (s : ℕ) → eqb t s ≡ true → name_at (with_name ns t m) s ≡ m
    name-at s q = ap (name_at (with_name ns t m)) (sym (eqb-true t s q)) ∙ name_there

    ssrc_at_lem : (s : ℕ) → eqb t s ≡ true → get_or (with_seat h t here n).ssrcs s 0 ≡ n.ssrc
    ssrc_at_lem s q = ap (λ (x : ℕ). get_or (with_seat h t here n).ssrcs x 0) (sym (eqb-true t s q)) ∙ ssrc_there

    columns' : Sixteen (with_seat h t here n) (with_name ns t m)
    unfolding with_seat with_name
    columns' = (
      length-set h.present t here ∙ k.columns.0,
      length-set h.ssrcs t n.ssrc ∙ k.columns.1,
      length-set h.highest t n.highest ∙ k.columns.2,
      length-set h.flags t n.flags ∙ k.columns.3,
      length-set ns.«of» t m ∙ k.columns.4,
    )

    settings' : (with_seat h t here n).settings ≡ h.settings
    unfolding with_seat
    settings' = refl

    pub seats_kept : SeatsOk (with_seat h t here n) (with_name ns t m)
    seats_kept =
        record {
          settings = rw settings' k.settings;
          columns = columns';
          ssrcs = λ s u p q e. by_test (eqb t s)
              (λ x. by_test (eqb t u)
              (λ y. sym (eqb-true t s x) ∙ eqb-true t u y)
              (λ y. absurd ((new (there s x p)).ssrc u (sym (present_else u y) ∙ q) (sym (ssrc_else u y) ∙ sym e ∙ ssrc_at_lem s x))))
              (λ x. by_test (eqb t u)
              (λ y. absurd ((new (there u y q)).ssrc s (sym (present_else s x) ∙ p) (sym (ssrc_else s x) ∙ e ∙ ssrc_at_lem u y)))
              (λ y. k.ssrcs s u (sym (present_else s x) ∙ p) (sym (present_else u y) ∙ q) (sym (ssrc_else s x) ∙ e ∙ ssrc_else u y)));
          desk = λ s p e. by_test (eqb t s)
              (λ x. (new (there s x p)).desk (sym (ssrc_at_lem s x) ∙ e ∙ ap (λ (z : Settings). z.ssrc) settings'))
              (λ x. k.desk s (sym (present_else s x) ∙ p) (sym (ssrc_else s x) ∙ e ∙ ap (λ (z : Settings). z.ssrc) settings'));
          lengths = λ s p. by_test (eqb t s)
              (λ x. rw (name-at s x) (new (there s x p)).length)
              (λ x. rw (name_else s x) (k.lengths s (sym (present_else s x) ∙ p)));
          behind = λ s. by_test (eqb t s) (λ x. rw (name-at s x) whole) (λ x. rw (name_else s x) (k.behind s));
          identities = λ s u p q e. by_test (eqb t s)
              (λ x. by_test (eqb t u)
              (λ y. sym (eqb-true t s x) ∙ eqb-true t u y)
              (λ y. absurd ((new (there s x p)).after u (sym (present_else u y) ∙ q) (rw (name-at s x, name_else u y) at e))))
              (λ x. by_test (eqb t u)
              (λ y. absurd ((new (there u y q)).before s (sym (present_else s x) ∙ p) (rw (name_else s x, name-at u y) at e)))
              (λ y. k.identities s u (sym (present_else s x) ∙ p) (sym (present_else u y) ∙ q) (rw (name_else s x, name_else u y) at e)));
          free = λ s p. by_test (eqb t s)
              (λ x. let g = gone (sym present_there ∙ ap (is_present (with_seat h t here n)) (eqb-true t s x) ∙ p) in
              rw (sym (eqb-true t s x)) (free_there g.0 g.1))
              (λ x. free_else s x (sym (present_else s x) ∙ p));
        }
