use Rattle.std.proofs.Common.{length}
use Rattle.solve.proofs.row.+push_others.Given as goal

-- the names that are left
abbrev pub decreases-push_others : goal.decreases-push_others
decreases-push_others l = length l.free.now
