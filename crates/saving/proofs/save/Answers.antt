-- `saving::save` meets its contract. Assumes nothing.
use Rattle.std.proofs.Common.{◌≡◌, ◌+◌, ◌≤◌, ◌<◌, ◌∙◌, length, sym, arith}
use Rattle.saving.proofs.Saves.{saves_none, room_kept, saves_no_room, room_untouched, saves_whole, room_written}
use Rattle.saving.proofs.Walks.{sheet-made}
use Rattle.sheet.proofs.Sizes.{length-sheet_of}
use Rattle.sheet.specs.Layout.{sheet_of}
use Rattle.saving.proofs.save.Goals as goal

pub returns-then-settings-ne0 : goal.returns-then-settings-ne0
returns-then-settings-ne0 c =
    let a = c.args in
    let other = c.if-settings-ne0.true in
    record {
      saves = sym (saves_none a.hall a.names a.room.now other);
      room_after = sym (room_kept a.hall a.names a.room.now other);
      result_bound = tt;
    }

pub returns-then-room-at : goal.returns-then-room-at
returns-then-room-at c =
    let a = c.args in
    let zero = c.if-settings-ne0.false in
    let k : length a.room.now < length (sheet_of a.hall a.names) =
    omega (arith, length-sheet_of a.hall a.names, c.extent_of-extent.ensures.octets, c.if-room-at.true) in
    record {
      saves = sym (saves_no_room a.hall a.names a.room.now zero k);
      room_after = sym (room_untouched a.hall a.names a.room.now zero k);
      result_bound = tt;
    }

pub returns : goal.returns
returns c =
    let a = c.args in
    let zero = c.if-settings-ne0.false in
    let m = c.extent_of-extent.ensures in
    let q : c.extent_of-extent.result.octets + 20 ≡ length (sheet_of a.hall a.names) =
    omega (arith, length-sheet_of a.hall a.names, m.octets) in
    let k : length (sheet_of a.hall a.names) ≤ length a.room.now = omega (arith, q, c.if-room-at.false) in
    record {
      saves = rw q (sym (saves_whole a.hall a.names a.room.now zero k));
      room_after = sheet-made a.hall a.names a.room.now _ _ _ _ _ m.octets m.count
          c.put_seats.ensures c.put_settings.ensures c.put_trailer.ensures
          ∙ sym (room_written a.hall a.names a.room.now zero k);
      result_bound = omega (arith, m.few);
    }
