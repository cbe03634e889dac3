-- `seat_octets::put_settings` meets its contract: one run of octets after the other. Assumes nothing.
use Rattle.std.proofs.Common.{◌≡◌, ◌≤◌, [], ◌∷◌, ◌++◌, length, refl, arith}
use Rattle.octets.specs.Octets.{octets16, octets32, over}
use Rattle.octets.proofs.Over.{over_more, run}
use Rattle.seat_octets.specs.Layout.{settings_octets}
use Rattle.seat_octets.proofs.put_settings.Goals as goal

pub returns : goal.returns
unfolding settings_octets octets32 octets16
returns c =
    let a = c.args in
    let s = a.settings in
    let h : a.at ≤ length a.room.now = omega (arith, c.requires) in
    let timed : c.put16.new.room ≡ over a.room.now a.at (octets32 s.ssrc ++ s.level ∷ s.limit ∷ s.c7 ∷ s.c20 ∷ octets16 s.duration) =
    grind (arith, over_more) in
    run a.room.now _ _ a.at 10 _ (s.normal ∷ 0 ∷ []) h refl timed c.put_pair-3.ensures
