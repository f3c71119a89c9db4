use Rattle.std.proofs.Common.{◌≡◌, ◌+◌, ◌≤◌, length}
use Rattle.trees.specs.Position.{column_from}
use Rattle.trees.proofs.position.column_behind.Given as goal

abbrev pub invariant-loop-rest : goal.invariant-loop-rest
invariant-loop-rest l = (column_from l.column l.rest ≡ column_from 1 l.front) × (l.column + length l.rest ≤ length l.front + 1)

abbrev pub decreases-loop-rest : goal.decreases-loop-rest
decreases-loop-rest l = length l.rest
