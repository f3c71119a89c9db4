use Rattle.std.proofs.Common.{length}
use Rattle.rules.proofs.known.+are_groups.Given as goal

abbrev pub decreases-are_groups : goal.decreases-are_groups
decreases-are_groups l = length l.names.now
