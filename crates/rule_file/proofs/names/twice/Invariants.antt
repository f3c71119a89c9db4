use Rattle.std.proofs.Common.{take}
use Rattle.rule_file.specs.Claims.{Differ}
use Rattle.rule_file.proofs.names.twice.Given as goal

abbrev pub invariant-loop-i : goal.invariant-loop-i
invariant-loop-i l = Differ l.text (take l.i l.names)
