use Rattle.std.proofs.Common.{length}
use Rattle.simulate.proofs.row.+push_step.Given as goal

abbrev pub decreases-push_step : goal.decreases-push_step
decreases-push_step l = length l.row.now
