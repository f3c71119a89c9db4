use Rattle.std.proofs.Common.{length}
use Rattle.simulate.proofs.seen.Seen.+moves.Given as goal

abbrev pub decreases-moves : goal.decreases-moves
decreases-moves l = length l.table.now
