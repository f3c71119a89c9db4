-- The numbers of the sets that stand for names, as a scope has them.
use Rattle.translation.specs.Numbers.{Numbering, numbered}
use Rattle.formula_claims.specs.declared.scope.Scope.{Scope}
use Rattle.formula_claims.specs.declared.scope.Scope.TheVariants.{Free, Bound'}
use Rattle.formula_claims.specs.Listed.{listed}

abbrev pub number_of : Scope → Numbering
number_of (Free names) = listed names.now
number_of (Bound' x n _ rest) = numbered (number_of rest) x n
