use Rattle.std.proofs.lemmas.Bool.{OnTrue_at, OnTrue_from}
use Rattle.rule_source.proofs.ClashLaws.{covers_first}
use Rattle.rule_source.proofs.clash.+covers.Goals as goal

pub returns-then-implies : goal.returns-then-implies
returns-then-implies t c = OnTrue_from _ _ (λ h. covers_first c.args.layout c.args.wide.now c.args.narrow.now _ c.in-len1-up.len_at_least (OnTrue_at c.if-implies.true c.implies.ensures) (OnTrue_at h c.covers.ensures))
