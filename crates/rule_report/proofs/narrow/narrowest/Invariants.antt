use Rattle.rule_report.specs.Narrowing.{AnsweredBefore}
use Rattle.rule_report.proofs.narrow.narrowest.Given as goal

-- with the statements so far it is answered
abbrev pub invariant-loop-k : goal.invariant-loop-k
invariant-loop-k l = AnsweredBefore l.source.bits l.subject l.source.file.lines.items l.k
