use Rattle.std.proofs.Common.{length}
use Rattle.rules.proofs.limits.+are_set.Given as goal

abbrev pub decreases-are_set : goal.decreases-are_set
decreases-are_set l = length l.names.now
