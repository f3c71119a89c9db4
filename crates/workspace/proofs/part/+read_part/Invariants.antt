use Rattle.std.proofs.Common.{length}
use Rattle.workspace.proofs.part.+read_part.Given as goal

abbrev pub decreases-read_part : goal.decreases-read_part
decreases-read_part l = length l.bytes.now
