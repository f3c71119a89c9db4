use Rattle.std.proofs.Common.{arith}
use Rattle.bitsets.proofs.BitrowsLaws.{has_none}
use Rattle.bitsets.proofs.bitrows.clear.Goals as goal

pub returns : goal.returns
returns c = has_none c.loop-word.row (λ z h. c.loop-word.invariant z (omega arith))
