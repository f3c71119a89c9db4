use Rattle.std.proofs.Common.{length}
use Rattle.solve.proofs.row.+in_row.Given as goal

-- the names that are left
abbrev pub decreases-in_row : goal.decreases-in_row
decreases-in_row l = length l.names.now
