use Rattle.std.proofs.Common.{length}
use Rattle.parts.proofs.parts.+push_stated.Given as goal

abbrev pub decreases-push_stated : goal.decreases-push_stated
decreases-push_stated l = length l.stated.now
