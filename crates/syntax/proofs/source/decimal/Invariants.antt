use Rattle.std.proofs.Common.{◌≡◌, ◌≤◌, length}
use Rattle.syntax.specs.Parsing.{value}
use Rattle.syntax.proofs.source.decimal.Given as goal

abbrev pub invariant-loop-rest : goal.invariant-loop-rest
invariant-loop-rest l = (value l.n l.rest ≡ value 0 l.bytes) × (l.n ≤ 1001)

abbrev pub decreases-loop-rest : goal.decreases-loop-rest
decreases-loop-rest l = length l.rest
