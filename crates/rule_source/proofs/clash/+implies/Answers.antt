use Rattle.std.proofs.lemmas.Bool.{OnTrue_at, OnTrue_from}
use Rattle.rule_source.proofs.ClashLaws.{gives_first}
use Rattle.rule_source.proofs.clash.+implies.Goals as goal

pub returns-then-gives : goal.returns-then-gives
returns-then-gives t c = OnTrue_from _ _ (λ _. gives_first c.args.layout c.args.ps.now _ c.args.q c.in-len1-up.len_at_least (OnTrue_at c.if-gives.true c.gives.ensures c.args.layout))
