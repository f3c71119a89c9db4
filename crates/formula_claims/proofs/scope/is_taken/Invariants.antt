use Rattle.std.proofs.Common.{◌≡◌, drop, ◌++◌}
use Rattle.translation.specs.Numbers.{numbers, among}
use Rattle.formula_claims.specs.Scope.{number_of}
use Rattle.formula_claims.proofs.scope.is_taken.Given as goal

-- n is none of those passed
abbrev pub invariant-loop-x : goal.invariant-loop-x
invariant-loop-x l = among l.n (l.taken ++ numbers (number_of l.scope) l.names) ≡ among l.n (drop l.x-index l.taken ++ numbers (number_of l.scope) l.names)

abbrev pub invariant-loop-x-2 : goal.invariant-loop-x-2
invariant-loop-x-2 l = among l.n (l.taken ++ numbers (number_of l.scope) l.names) ≡ among l.n (numbers (number_of l.scope) (drop l.x-index l.names))
