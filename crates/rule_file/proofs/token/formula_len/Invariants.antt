use Rattle.std.proofs.Common.{◌<◌, ◌≤◌, IsTrue, length, drop, ◌-◌}
use Rattle.rule_file.specs.Gaps.{ends_line}
use Rattle.rule_file.proofs.token.formula_len.Given as goal

abbrev pub invariant-loop-at : goal.invariant-loop-at
invariant-loop-at l = record { some : 0 < l.end; behind : l.end ≤ l.at; within : l.at ≤ length l.rest; ends : IsTrue (ends_line (drop l.at l.rest)) → IsTrue (ends_line (drop l.end l.rest)) }

abbrev pub decreases-loop-at : goal.decreases-loop-at
decreases-loop-at l = length l.rest - l.at
