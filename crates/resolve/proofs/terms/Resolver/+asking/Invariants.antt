use Rattle.resolve.proofs.terms.Resolver.+asking.Given as goal

-- each call may go less deep than the one around it
abbrev pub decreases-items : goal.decreases-items
decreases-items l = l.calls

abbrev pub decreases-row : goal.decreases-row
decreases-row l = l.calls

abbrev pub decreases-names : goal.decreases-names
decreases-names l = l.calls

abbrev pub decreases-ends : goal.decreases-ends
decreases-ends l = l.calls
