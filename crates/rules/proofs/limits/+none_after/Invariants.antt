use Rattle.std.proofs.Common.{length}
use Rattle.rules.proofs.limits.+none_after.Given as goal

abbrev pub decreases-none_after : goal.decreases-none_after
decreases-none_after l = length l.limits.now
