use Rattle.std.proofs.Common.{◌≡◌, ◌++◌, drop}
use Rattle.diagram.specs.Drawn.{of_rows}
use Rattle.diagram.proofs.drawn.rects.Given as goal

abbrev pub invariant-loop-step : goal.invariant-loop-step
invariant-loop-step l = l.out.items ++ of_rows l.layout l.part l.step (drop l.step l.rows) ≡ of_rows l.layout l.part 0 l.rows
