use Rattle.std.proofs.Common.{◌≡◌, ◌++◌, map, length}
use Rattle.resolve.specs.Asks.{declared}
use Rattle.claim_report.specs.Named.{names_of, row_names}
use Rattle.claim_report.proofs.declared.set_names.Given as goal

abbrev pub invariant-loop-rest : goal.invariant-loop-rest
invariant-loop-rest l = map (λ n. n.now) l.all.items ++ row_names (declared l.rest) ≡ names_of l.items ++ row_names (declared l.items)

abbrev pub decreases-loop-rest : goal.decreases-loop-rest
decreases-loop-rest l = length l.rest
