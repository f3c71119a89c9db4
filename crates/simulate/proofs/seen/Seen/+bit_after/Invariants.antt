use Rattle.std.proofs.Common.{length}
use Rattle.simulate.proofs.seen.Seen.+bit_after.Given as goal

abbrev pub decreases-bit_after : goal.decreases-bit_after
decreases-bit_after l = length l.table.now
