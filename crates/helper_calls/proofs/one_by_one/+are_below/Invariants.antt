use Rattle.std.proofs.Common.{length}
use Rattle.helper_calls.proofs.one_by_one.+are_below.Given as goal

abbrev pub decreases-are_below : goal.decreases-are_below
decreases-are_below l = length l.choice.now
