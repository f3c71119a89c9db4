use Rattle.std.proofs.Common.{length}
use Rattle.simulate.proofs.row.+all_wait.Given as goal

abbrev pub decreases-all_wait : goal.decreases-all_wait
decreases-all_wait l = length l.row.now
