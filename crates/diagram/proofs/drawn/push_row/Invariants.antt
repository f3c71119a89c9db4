use Rattle.std.proofs.Common.{◌≡◌, ◌++◌, drop}
use Rattle.diagram.specs.Drawn.{of_row}
use Rattle.diagram.proofs.drawn.push_row.Given as goal

-- what is there, and what the modules from here on give, is what there is to be in the end
abbrev pub invariant-loop-place : goal.invariant-loop-place
invariant-loop-place l = l.out.items ++ of_row l.layout l.part l.step l.place (drop l.place l.row) ≡ l.initial.out.items ++ of_row l.layout l.part l.step 0 l.row
