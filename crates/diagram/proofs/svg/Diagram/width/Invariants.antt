use Rattle.std.proofs.Common.{◌^◌, ◌<◌}
use Rattle.diagram.proofs.svg.Diagram.width.Given as goal

abbrev pub invariant-loop-name : goal.invariant-loop-name
invariant-loop-name l = l.wide < 2 ^ 100
