use Rattle.std.proofs.Common.{length}
use Rattle.rule_source.proofs.clash.+covers.Given as goal

abbrev pub decreases-covers : goal.decreases-covers
decreases-covers l = length l.wide.now
