-- `report_octets::put_report` meets its contract. Assumes nothing.
use Prim.Native.Nat.{zero-le}
use mathlib.Core.List.{◌++◌}
use mathlib.Core.Path.{refl}
use Rattle.octets.specs.Octets.{octets16}
use Rattle.octets.proofs.Over.{run}
use Rattle.report_octets.specs.Places.{first_place, second_place}
use Rattle.report_octets.specs.Report.{marks_octets, octets_of_message, octets_of_report}
use Rattle.report_octets.proofs.put_report.Goals as goal

pub returns : goal.returns
unfolding octets_of_report octets_of_message marks_octets octets16
returns c =
    let a = c.args in
    let m = marks_octets a.report.marks in
    let n = octets_of_message a.report.first in
    run a.room.now c.put_message.new.room c.put_message-2.new.room 0 second_place (m ++ n) (octets_of_message a.report.second) zero-le refl
    (run a.room.now c.put_marks.new.room c.put_message.new.room 0 first_place m n zero-le refl c.put_marks.ensures c.put_message.ensures)
    c.put_message-2.ensures
