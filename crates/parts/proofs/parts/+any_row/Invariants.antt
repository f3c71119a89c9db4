use Rattle.std.proofs.Common.{length}
use Rattle.parts.proofs.parts.+any_row.Given as goal

-- the items that are left
abbrev pub decreases-any_row : goal.decreases-any_row
decreases-any_row l = length l.items.now
