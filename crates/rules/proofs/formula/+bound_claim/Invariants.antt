use Rattle.rules.proofs.formula.+bound_claim.Given as goal

abbrev pub decreases-bound_claim : goal.decreases-bound_claim
decreases-bound_claim l = l.n
