-- What the search may open where a rule chooses by tests. Assumes nothing.
use Rattle.std.proofs.Common.{ℕ}
use Rattle.words.specs.Choice.{when◌then◌else◌}
use Rattle.report_octets.specs.Report.{kind_of, said_by, alike, told_in}

unfoldable pub choosing : Type 0
unfolding kind_of said_by alike told_in when◌then◌else◌
choosing = ℕ
