use Rattle.std.proofs.Common.{length}
use Rattle.rule_source.proofs.formula.+are_named.Given as goal

abbrev pub decreases-are_named : goal.decreases-are_named
decreases-are_named l = length l.sets.now
