use Rattle.std.proofs.Common.{length}
use Rattle.strengthen.proofs.marks.+chosen_hold.Given as goal

abbrev pub decreases-chosen_hold : goal.decreases-chosen_hold
decreases-chosen_hold l = length l.choice.now
