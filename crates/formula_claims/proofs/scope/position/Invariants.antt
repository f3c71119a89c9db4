use Rattle.std.proofs.Common.{◌≡◌, ◌+◌, drop}
use Rattle.formula_claims.specs.Listed.{position_of}
use Rattle.formula_claims.proofs.scope.position.Given as goal

-- the name is not among those passed
abbrev pub invariant-loop-i : goal.invariant-loop-i
invariant-loop-i l = position_of l.name l.names ≡ l.i + position_of l.name (drop l.i l.names)
