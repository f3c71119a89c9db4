use Rattle.std.proofs.Common.{length}
use Rattle.construct.proofs.work_out.+work_out.Given as goal

abbrev pub decreases-work_out : goal.decreases-work_out
decreases-work_out l = length l.part.now
