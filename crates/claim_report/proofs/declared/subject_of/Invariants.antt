use Rattle.std.proofs.Common.{◌≡◌, length}
use Rattle.claim_report.specs.Subjects.{nothing, subject_from}
use Rattle.claim_report.proofs.declared.subject_of.Given as goal

abbrev pub invariant-loop-rest : goal.invariant-loop-rest
invariant-loop-rest l = subject_from l.subject l.rest ≡ subject_from nothing l.items

abbrev pub decreases-loop-rest : goal.decreases-loop-rest
decreases-loop-rest l = length l.rest
