use Rattle.selection.proofs.selection.+narrow_below.Given as goal

-- a set fewer each time
abbrev pub decreases-narrow_below : goal.decreases-narrow_below
decreases-narrow_below l = l.of
