use Rattle.std.proofs.Common.{length}
use Rattle.resolve.proofs.late.+late_ring.Given as goal

abbrev pub decreases-late_ring : goal.decreases-late_ring
decreases-late_ring l = length l.items.now
