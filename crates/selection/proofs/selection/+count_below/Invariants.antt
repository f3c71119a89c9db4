use Rattle.selection.proofs.selection.+count_below.Given as goal

-- a set fewer each time
abbrev pub decreases-count_below : goal.decreases-count_below
decreases-count_below l = l.of
