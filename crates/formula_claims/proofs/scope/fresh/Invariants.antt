use Rattle.std.proofs.Common.{◌≡◌, ℕ, ◌<◌, ◌++◌, true}
use Rattle.translation.specs.Numbers.{numbers, among}
use Rattle.formula_claims.specs.Scope.{number_of}
use Rattle.formula_claims.proofs.scope.fresh.Given as goal

-- all numbers passed are taken
abbrev pub invariant-loop-n : goal.invariant-loop-n
invariant-loop-n l = (j : ℕ) → j < l.n → among j (l.taken ++ numbers (number_of l.scope) l.names) ≡ true
