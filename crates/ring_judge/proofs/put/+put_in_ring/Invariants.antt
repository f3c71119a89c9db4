use Rattle.std.proofs.Common.{length}
use Rattle.ring_judge.proofs.put.+put_in_ring.Given as goal

abbrev pub decreases-put_in_ring : goal.decreases-put_in_ring
decreases-put_in_ring l = length l.bytes.now
