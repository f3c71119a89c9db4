use Rattle.simulate.proofs.seen.Seen.+after.Given as goal

abbrev pub decreases-after : goal.decreases-after
decreases-after l = l.count
