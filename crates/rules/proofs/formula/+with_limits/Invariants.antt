use Rattle.std.proofs.Common.{length}
use Rattle.rules.proofs.formula.+with_limits.Given as goal

abbrev pub decreases-with_limits : goal.decreases-with_limits
decreases-with_limits l = length l.limits.now
