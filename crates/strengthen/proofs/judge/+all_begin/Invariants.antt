use Rattle.std.proofs.Common.{length}
use Rattle.strengthen.proofs.judge.+all_begin.Given as goal

abbrev pub decreases-all_begin : goal.decreases-all_begin
decreases-all_begin l = length l.choice.now
