use Rattle.std.proofs.Common.{subst}
use Rattle.claims.specs.Claims.{C}
use Rattle.rules.proofs.ChangedLaws.{is_true}
use Rattle.rule_check.specs.Told.{Judged}
use Rattle.rule_check.proofs.ToldLaws.{answered}
use Rattle.kept_claims.specs.Breach.{Breaks, claim_of}
use Rattle.kept_check.proofs.PartLaws.{part_tells}
use Rattle.kept_check.proofs.part.verdict_of.Goals as goal

pub returns : goal.returns
returns c =
    let a = c.args.asked in
    let k = a.keeping.now in
    let d = c.args.part.now in
    let m = c.args.moment in
    let v = c.in_ok-verdict.verdict in
    let judged : Judged a.memory.words k.rule.now.bits (claim_of k d m) a.memory.most v = subst (λ (x : C). Judged a.memory.words k.rule.now.bits x a.memory.most v) c.in_ok-claim.ensures c.in_ok-verdict.ensures in
    answered a.memory.words k.rule.now.bits (Breaks k d m) (claim_of k d m) a.memory.most v (part_tells k d m (is_true _ c.requires)) judged
