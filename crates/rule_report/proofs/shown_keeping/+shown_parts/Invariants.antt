use Rattle.std.proofs.Common.{length}
use Rattle.rule_report.proofs.shown_keeping.+shown_parts.Given as goal

abbrev pub decreases-shown_parts : goal.decreases-shown_parts
decreases-shown_parts l = length l.parts.now
