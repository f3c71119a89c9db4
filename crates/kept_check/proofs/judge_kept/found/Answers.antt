use Rattle.std.proofs.Common.{subst}
use Rattle.kept_check.specs.Found.{OfParts}
use Rattle.kept_check.specs.Parts.{parts}
use Rattle.kept_check.proofs.ClaimLaws.{none_broken, first_broken, first_moment}
use Rattle.kept_check.proofs.judge_kept.found.Goals as goal

pub returns-in-Nothing : goal.returns-in-Nothing
returns-in-Nothing c =
    let a = c.args.asked in
    none_broken a.keeping.now (subst (OfParts a.keeping.now a.memory (parts a.keeping.now.claim.value) 1) c.in-Nothing.is c.in_ok-found.ensures.0)

pub returns-in-First : goal.returns-in-First
returns-in-First c =
    let a = c.args.asked in
    let k = a.keeping.now in
    let found = subst (OfParts a.keeping.now a.memory (parts k.claim.value) 1) c.in-First.is c.in_ok-found.ensures.0 in
    (first_broken k c.in-First.row.items found.0, first_moment k c.in-First.moment c.in-First.row.items found.1)
