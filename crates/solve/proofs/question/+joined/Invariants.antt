use Rattle.std.proofs.Common.{length}
use Rattle.solve.proofs.question.+joined.Given as goal

abbrev pub decreases-joined : goal.decreases-joined
decreases-joined l = length l.all.items
