use Rattle.std.proofs.Common.{length}
use Rattle.rules.proofs.known.+has_patterns.Given as goal

abbrev pub decreases-has_patterns : goal.decreases-has_patterns
decreases-has_patterns l = length l.patterns.now
