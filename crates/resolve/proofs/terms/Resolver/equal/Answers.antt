use Rattle.resolve.specs.Scopes.{context, signature}
use Rattle.resolve.specs.Says.{value}
use Rattle.resolve.proofs.Iff.{iff_trans, iff_and}
use Rattle.resolve.proofs.ValuesLaws.{same_sets}
use Rattle.resolve.proofs.FaultsLaws.{first_passed}
use Rattle.resolve.proofs.terms.Resolver.equal.Goals as goal

pub returns-clause-says : goal.returns-clause-says
returns-clause-says c = λ e.
    let s = context c.args.scope.now e in
    let sets = c.in_ok-first-in-Set.ensures.sets e in
    iff_trans (c.in_ok-and-in-Set.ensures e)
    (iff_trans (iff_and (c.in_ok-first-in-Set.ensures.says e) (c.in_ok-second-in-Set.ensures.says e))
    (same_sets (value c.args.a.now.kind s) (value c.args.b.now.kind s) sets.0 sets.1))

pub returns-in_err-first-clause-faults : goal.returns-in_err-first-clause-faults
returns-in_err-first-clause-faults c = first_passed c.from_residual.result (signature c.args.scope.now) c.args.a.now c.args.b.now _ c.from_residual.ensures.1 c.in_err-first.ensures.faults
