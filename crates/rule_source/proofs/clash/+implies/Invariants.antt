use Rattle.std.proofs.Common.{length}
use Rattle.rule_source.proofs.clash.+implies.Given as goal

abbrev pub decreases-implies : goal.decreases-implies
decreases-implies l = length l.ps.now
