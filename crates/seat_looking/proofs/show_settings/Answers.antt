-- `seat_looking::show_settings` keeps its promise, `(result, room.new) ≡ shown (settings_octets settings) room.old`. Assumes nothing.
use Rattle.std.proofs.Common.{rules, refl, ◌≡◌, sym, ◌∙◌}
use Rattle.octets.specs.Octets.{over}
use Rattle.seat_octets.specs.Layout.{settings_octets}
use Rattle.seat_octets.proofs.SettingsLaws.{settings_long}
use Rattle.signed.proofs.Signed.{passed, pair_same}
use Rattle.seat_looking.proofs.Shows.{shown_so}
use Rattle.seat_looking.proofs.show_settings.Goals as goal

pub returns : goal.returns
returns c =
    let a = c.args in
    pair_same (passed c.shown.type_inv) refl
    ∙ shown_so (settings_octets a.settings) a.room.now _ _ _ (sym (settings_long a.settings))
    (λ l. let w = c.shown.ensures.written l in
    let z : c.shown.new.room ≡ over a.room.now 0 (settings_octets a.settings) = search rules in
    (w.0, z)) c.shown.ensures.no_room
