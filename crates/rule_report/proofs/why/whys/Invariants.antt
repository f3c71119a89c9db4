use Rattle.std.proofs.Common.{map, take, string_bytes}
use Rattle.rule_report.specs.Why.{AreWhys}
use Rattle.rule_report.proofs.why.whys.Given as goal

-- what is told of the first of them
abbrev pub invariant-loop-choice : goal.invariant-loop-choice
invariant-loop-choice g l = AreWhys l.asked.source.now l.asked.options.now l.given l.memory (map (λ c. c.items) (take l.choice-index l.choices)) (string_bytes l.words)
