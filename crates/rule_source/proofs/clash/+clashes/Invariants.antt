use Rattle.std.proofs.Common.{length}
use Rattle.rule_source.proofs.clash.+clashes.Given as goal

abbrev pub decreases-clashes : goal.decreases-clashes
decreases-clashes l = length l.ps.now
