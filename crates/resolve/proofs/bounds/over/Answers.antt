use Rattle.std.proofs.Common.{None, subst, sym, ◌↔◌}
use Rattle.formulas.specs.Meaning.{Meaning}
use Rattle.resolve.specs.Scopes.{Bound, IsBelow, OverAll, WhereBound}
use Rattle.resolve.proofs.Iff.{iff_trans, if_ok}
use Rattle.resolve.proofs.BoundsLaws.{over_iff, bound_says}
use Rattle.resolve.proofs.bounds.over.Goals as goal

pub returns-in_ok-formula-in-Some : goal.returns-in_ok-formula-in-Some
returns-in_ok-formula-in-Some c =
    let a = c.args in
    let r = c.in-Some.row in
    let below = subst (λ o. IsBelow a.number o) c.in-Some.is c.requires in
    if_ok c.over_all-in-Some.result _ _ (λ f h e. (
    let inner = c.in_ok-formula-in-Some.ensures in
    let under = over_iff a.quantifier a.sort a.number None _ (λ z. WhereBound a.quantifier (Bound a.sort a.number r z) (Meaning a.formula.value z)) inner e in
    subst (λ o. Meaning f.value e ↔ OverAll a.quantifier a.sort a.number o (λ z. Meaning a.formula.value z) e) (sym c.in-Some.is)
    (iff_trans (h e) (iff_trans under (bound_says a.quantifier a.sort a.number r (λ z. Meaning a.formula.value z) e below)))
    )) c.over_all-in-Some.ensures
