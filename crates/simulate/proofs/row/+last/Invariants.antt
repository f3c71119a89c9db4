use Rattle.std.proofs.Common.{length}
use Rattle.simulate.proofs.row.+last.Given as goal

abbrev pub decreases-last : goal.decreases-last
decreases-last l = length l.row.now
