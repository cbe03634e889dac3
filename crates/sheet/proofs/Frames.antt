-- What frames a sheet, by each of its checks where those before it passed; and what is so where none applies. Assumes nothing.
use Rattle.std.proofs.Common.{ℕ, ◌+◌, ◌≤◌, ◌<◌, ◌≢◌, List, ◌≡◌, Ok, Err, length, arith}
use Rattle.std.proofs.lemmas.Bool.Decides.{nat_tests}
use Rattle.words.specs.Choice.{when◌then◌else◌}
use Rattle.sheet.specs.declared.Refusal.TheVariants.{NotASheet, OtherForm, WrongPlaces}
use Rattle.sheet.specs.Layout.{form, sheet_letters, tail_size}
use Rattle.sheet.specs.Framing.{settings_offset, seats_offset, seat_count, form_of, letters_of, framing}

-- nothing is wrong with the trailer
pub record Framed (s : List ℕ) : Type 0 where
  pub long : tail_size ≤ length s
  pub lettered : letters_of s ≡ sheet_letters
  pub formed : form_of s ≡ form
  pub few : seat_count s ≤ 16
  pub placed : settings_offset s + tail_size ≡ length s
  pub first : seats_offset s ≡ 0

-- what a proof about the trailer opens
unfoldable pub judging : Type 0
unfolding framing when◌then◌else◌
judging = ℕ

module _ (s : List ℕ) where
  pub frames_short : length s < tail_size → framing s ≡ Err NotASheet
  unfolding judging
  frames_short h = grind (arith, nat_tests)

  module _ (h1 : tail_size ≤ length s) where
    pub frames_letters : letters_of s ≢ sheet_letters → framing s ≡ Err NotASheet
    unfolding judging
    frames_letters h = grind (arith, nat_tests)

    module _ (h2 : letters_of s ≡ sheet_letters) where
      pub frames_form : form_of s ≢ form → framing s ≡ Err OtherForm
      unfolding judging
      frames_form h = grind (arith, nat_tests)

      module _ (h3 : form_of s ≡ form) where
        pub frames_count : 16 < seat_count s → framing s ≡ Err WrongPlaces
        unfolding judging
        frames_count h = grind (arith, nat_tests)

        module _ (h4 : seat_count s ≤ 16) where
          pub frames_settings : settings_offset s + tail_size ≢ length s → framing s ≡ Err WrongPlaces
          unfolding judging
          frames_settings h = grind (arith, nat_tests)

          pub frames_seats : settings_offset s + tail_size ≡ length s → seats_offset s ≢ 0 → framing s ≡ Err WrongPlaces
          unfolding judging
          frames_seats h5 h = grind (arith, nat_tests)

-- where none applies, and only there
pub frames : (s : List ℕ) → Framed s → framing s ≡ Ok tt
unfolding judging
frames s k = grind (arith, nat_tests)

pub framed : (s : List ℕ) → framing s ≡ Ok tt → Framed s
unfolding judging
framed s e =
    record {
      long = grind (arith, nat_tests);
      lettered = grind (arith, nat_tests);
      formed = grind (arith, nat_tests);
      few = grind (arith, nat_tests);
      placed = grind (arith, nat_tests);
      first = grind (arith, nat_tests);
    }
