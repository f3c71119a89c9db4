use Rattle.std.proofs.Common.{length}
use Rattle.solve.proofs.narrow.+first_large.Given as goal

abbrev pub decreases-first_large : goal.decreases-first_large
decreases-first_large l = length l.all.now
