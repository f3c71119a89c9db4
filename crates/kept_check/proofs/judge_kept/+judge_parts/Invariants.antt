use Rattle.std.proofs.Common.{length}
use Rattle.kept_check.proofs.judge_kept.+judge_parts.Given as goal

abbrev pub decreases-judge_parts : goal.decreases-judge_parts
decreases-judge_parts l = length l.parts.now
