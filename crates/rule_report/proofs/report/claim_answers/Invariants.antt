use Rattle.std.proofs.Common.{map, take}
use Rattle.rule_report.specs.Reported.{Tells, of_claim}
use Rattle.rule_report.proofs.report.claim_answers.Given as goal

-- the answers to the first claims
abbrev pub invariant-loop-claim : goal.invariant-loop-claim
invariant-loop-claim l = Tells l.asked.file.now l.asked.title.now l.asked.source.now l.asked.options.now (map of_claim (take l.claim-index l.claims)) l.report
