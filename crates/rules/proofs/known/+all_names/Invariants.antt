use Rattle.std.proofs.Common.{length}
use Rattle.rules.proofs.known.+all_names.Given as goal

abbrev pub decreases-all_names : goal.decreases-all_names
decreases-all_names l = length l.formulas.now
