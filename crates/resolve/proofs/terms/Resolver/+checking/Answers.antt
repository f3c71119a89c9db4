use Rattle.std.proofs.Common.{◌≡◌, suc, sym, subst, arith, rules, add-one}
use Rattle.resolve.specs.Scopes.{Settled, Steady}
use Rattle.resolve.proofs.ScopesLaws.{steady_more}
use Rattle.resolve.proofs.terms.Resolver.+checking.Goals as goal

pub check-requires : goal.check-requires
check-requires t c =
    let n = c.args.level in
    let e : c.in-Some.next ≡ suc n = omega (arith, c.in-Some.ensures) in
    (search rules, (subst (λ m. Settled m c.in_ok-term.term) (sym e) (subst (λ m. Settled m c.in_ok-term.term) (add-one n) c.in_ok-term.ensures.settled), subst (λ m. Steady m c.args.scope.now) (sym e) (steady_more n c.args.scope.now c.requires)))
