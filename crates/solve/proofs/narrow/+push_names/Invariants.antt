use Rattle.std.proofs.Common.{length}
use Rattle.solve.proofs.narrow.+push_names.Given as goal

abbrev pub decreases-push_names : goal.decreases-push_names
decreases-push_names l = length l.more.now
