use Rattle.selection.proofs.selection.+spread_below.Given as goal

-- a set fewer each time
abbrev pub decreases-spread_below : goal.decreases-spread_below
decreases-spread_below l = l.of
