use Rattle.resolve.proofs.terms.Resolver.+terms.Given as goal

abbrev pub decreases-group : goal.decreases-group
decreases-group l = l.calls

abbrev pub decreases-listed : goal.decreases-listed
decreases-listed l = l.calls

abbrev pub decreases-place : goal.decreases-place
decreases-place l = l.calls

abbrev pub decreases-term : goal.decreases-term
decreases-term l = l.calls
