use Rattle.std.proofs.Common.{length}
use Rattle.rule_report.proofs.choices.+numbers.Given as goal

abbrev pub decreases-numbers : goal.decreases-numbers
decreases-numbers l = length l.choice.now
