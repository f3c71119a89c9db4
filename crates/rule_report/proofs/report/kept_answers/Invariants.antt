use Rattle.std.proofs.Common.{map, take}
use Rattle.rule_report.specs.Reported.{Tells, of_keep}
use Rattle.rule_report.proofs.report.kept_answers.Given as goal

-- the answers to the first of them
abbrev pub invariant-loop-keep : goal.invariant-loop-keep
invariant-loop-keep g l = Tells l.asked.file.now l.asked.title.now l.asked.source.now l.asked.options.now (map of_keep (take l.keep-index l.keeps)) l.report
