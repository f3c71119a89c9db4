use Rattle.std.proofs.Common.{length}
use Rattle.strengthen.proofs.marks.+chosen_fails.Given as goal

abbrev pub decreases-chosen_fails : goal.decreases-chosen_fails
decreases-chosen_fails l = length l.choice.now
