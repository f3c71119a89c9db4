use Rattle.std.proofs.Common.{length}
use Rattle.rules.proofs.limits.+with_limits_after.Given as goal

abbrev pub decreases-with_limits_after : goal.decreases-with_limits_after
decreases-with_limits_after l = length l.limits.now
