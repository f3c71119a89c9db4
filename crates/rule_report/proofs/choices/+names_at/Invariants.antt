use Rattle.std.proofs.Common.{length}
use Rattle.rule_report.proofs.choices.+names_at.Given as goal

abbrev pub decreases-names_at : goal.decreases-names_at
decreases-names_at l = length l.choice.now
