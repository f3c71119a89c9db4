use Rattle.transitions.proofs.transitions.+follow.Given as goal

abbrev pub decreases-follow : goal.decreases-follow
decreases-follow l = l.sets
