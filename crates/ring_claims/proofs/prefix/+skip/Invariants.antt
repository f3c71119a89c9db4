use Rattle.std.proofs.Common.{length}
use Rattle.ring_claims.proofs.prefix.+skip.Given as goal

abbrev pub decreases-skip : goal.decreases-skip
decreases-skip l = length l.bytes.now
