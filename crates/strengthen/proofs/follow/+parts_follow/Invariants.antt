use Rattle.std.proofs.Common.{length}
use Rattle.strengthen.proofs.follow.+parts_follow.Given as goal

abbrev pub decreases-parts_follow : goal.decreases-parts_follow
decreases-parts_follow g l = length l.parts.now
