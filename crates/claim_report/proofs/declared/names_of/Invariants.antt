use Rattle.std.proofs.Common.{◌≡◌, ◌++◌, map, length}
use Rattle.claim_report.specs.Named.{names_of}
use Rattle.claim_report.proofs.declared.names_of.Given as goal

abbrev pub invariant-loop-rest : goal.invariant-loop-rest
invariant-loop-rest l = map (λ n. n.now) l.all.items ++ names_of l.rest ≡ names_of l.items

abbrev pub decreases-loop-rest : goal.decreases-loop-rest
decreases-loop-rest l = length l.rest
