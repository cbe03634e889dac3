-- Which desks can be saved: those at normal level 0; every other gets 48. Assumes nothing.
use Rattle.std.proofs.Common.{ℕ, List, ◌≡◌, Err, arith}
use Rattle.std.proofs.lemmas.Bool.Decides.{nat_tests}
use Rattle.words.specs.Choice.{when◌then◌else◌}
use Rattle.hall.specs.declared.Hall.{Hall}
use Rattle.identities.specs.declared.Names.{Names}
use Rattle.history.specs.Doing.{after_all}
use Rattle.reach.proofs.Reach.{sound_reached}
use Rattle.saving.specs.declared.Refusal.TheVariants.{CannotHold}
use Rattle.saving.specs.Saving.{saving}
use Rattle.saving.proofs.Saves.{saves_none, room_kept}
use Rattle.sheet_laws.specs.Sheets.{EitherSavedOr48}
use Rattle.sheet_laws.proofs.Back.{saved_loads}
use Rattle.sheet_laws.proofs.Lengths.{lengths}

-- at level 0 saving ends with 13, or is done
never_48 : (h : Hall) (ns : Names) (room : List ℕ) → h.settings.normal ≡ 0 → saving h ns room ≡ Err CannotHold → ⊥
unfolding saving when◌then◌else◌
never_48 h ns room e n = grind (arith, nat_tests)

pub either_saved_or_48 : EitherSavedOr48
either_saved_or_48 start f xs room =
    let d = after_all start xs in
    let h = d.hall in
    let ns = d.names in
    let k = (sound_reached start f xs).seats in
    record {
      saved = λ e l. let z = (lengths h ns room).enough k e l in (z, saved_loads h ns room k z);
      not48 = never_48 h ns room;
      other = λ o. (saves_none h ns room o, room_kept h ns room o);
    }
