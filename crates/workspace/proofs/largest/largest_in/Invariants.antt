use Rattle.std.proofs.Common.{◌-◌, ◌≤◌}
use Rattle.workspace.specs.Floor.{RoomIn}
use Rattle.workspace.proofs.largest.largest_in.Given as goal

abbrev pub invariant-loop-n : goal.invariant-loop-n
invariant-loop-n l = record { within : l.n ≤ l.most; fits : RoomIn l.words l.claim l.n }

abbrev pub decreases-loop-n : goal.decreases-loop-n
decreases-loop-n l = l.most - l.n
