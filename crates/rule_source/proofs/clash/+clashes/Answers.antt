use Rattle.std.proofs.lemmas.Bool.{OnTrue_at, OnTrue_from}
use Rattle.rule_source.proofs.ClashLaws.{excludes_first, excludes_rest}
use Rattle.rule_source.proofs.clash.+clashes.Goals as goal

pub returns-then-excludes-clause-none : goal.returns-then-excludes-clause-none
returns-then-excludes-clause-none t c = OnTrue_from _ _ (λ _. excludes_first c.args.layout c.args.ps.now _ c.args.p c.in-len1-up.len_at_least (OnTrue_at c.if-excludes.true c.excludes.ensures c.args.layout))

pub returns-else-excludes-clause-none : goal.returns-else-excludes-clause-none
returns-else-excludes-clause-none t c = OnTrue_from _ _ (λ h. excludes_rest c.args.layout c.args.ps.now c.args.p c.in-len1-up.len_at_least (OnTrue_at h c.clashes.ensures.none))
