use Rattle.std.proofs.Common.{subst}
use Rattle.kept_check.specs.Told.{OfClaim}
use Rattle.kept_check.proofs.ClaimLaws.{kept}
use Rattle.kept_check.proofs.judge_kept.judge_kept.Goals as goal

pub step-requires : goal.step-requires
step-requires c = c.args.asked.keeping.now.rule.now.few

pub returns-in-Nothing : goal.returns-in-Nothing
returns-in-Nothing c =
    let a = c.args.asked in
    kept a.keeping.now (subst (OfClaim a.keeping.now a.memory) c.in-Nothing.is c.in_ok-found.ensures)
