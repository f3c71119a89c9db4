use Rattle.std.proofs.Common.{length}
use Rattle.rules.proofs.known.+has_lines.Given as goal

abbrev pub decreases-has_lines : goal.decreases-has_lines
decreases-has_lines l = length l.table.now
