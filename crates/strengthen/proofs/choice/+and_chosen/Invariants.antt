use Rattle.std.proofs.Common.{length}
use Rattle.strengthen.proofs.choice.+and_chosen.Given as goal

abbrev pub decreases-and_chosen : goal.decreases-and_chosen
decreases-and_chosen l = length l.choice.now
