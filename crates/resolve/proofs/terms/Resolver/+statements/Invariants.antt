use Rattle.resolve.proofs.terms.Resolver.+statements.Given as goal

abbrev pub decreases-bound : goal.decreases-bound
decreases-bound l = l.calls

abbrev pub decreases-expanded : goal.decreases-expanded
decreases-expanded l = l.calls

abbrev pub decreases-formula : goal.decreases-formula
decreases-formula l = l.calls

abbrev pub decreases-implication : goal.decreases-implication
decreases-implication l = l.calls
