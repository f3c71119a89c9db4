use Rattle.std.proofs.Common.{ap}
use Rattle.translation.specs.Numbers.{Numbering}
use Rattle.translation.specs.Translation.{claim}
use Rattle.formula_claims.specs.Scope.{number_of as scope_number}
use Rattle.rules.specs.Numbers.{number_of}
use Rattle.rules.proofs.FormulaLaws.{bound_down}
use Rattle.rules.proofs.formula.+bound_claim.Goals as goal

pub returns : goal.returns
returns t c =
    let a = c.args.formula.now in
    rw (ap (λ (ρ : Numbering). claim a ρ) (bound_down c.args.n (number_of c.args.x.now) (scope_number c.args.scope.now) c.of_bit.result c.if-n-eq0.false c.of_bit.ensures)) at c.bound_claim.ensures
