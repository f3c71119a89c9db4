use Rattle.std.proofs.Common.{length}
use Rattle.resolve.proofs.terms.Resolver.+checking.Given as goal

abbrev pub decreases-check : goal.decreases-check
decreases-check l = length l.parameters.now
