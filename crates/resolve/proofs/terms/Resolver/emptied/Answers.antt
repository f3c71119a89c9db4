use Rattle.formulas.specs.Meaning.{members}
use Rattle.resolve.specs.Says.{value}
use Rattle.resolve.specs.Scopes.{context}
use Rattle.resolve.proofs.Iff.{iff_trans}
use Rattle.resolve.proofs.ValuesLaws.{empty_says}
use Rattle.resolve.proofs.terms.Resolver.emptied.Goals as goal

pub returns-clause-says : goal.returns-clause-says
returns-clause-says c = λ e.
    let v = value c.args.a.now.kind (context c.args.scope.now e) in
    let u = members c.in_ok-set.set.value e in
    iff_trans (rw c.in_ok-empty.ensures.ok at (c.in_ok-sub.ensures e)) (empty_says v u (c.in_ok-set.ensures.means e))
