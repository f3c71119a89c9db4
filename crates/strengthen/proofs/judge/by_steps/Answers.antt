use Rattle.std.proofs.Common.{◌≡◌, Bool, true, false, sym, subst, ◌∙◌, refl, not}
use Rattle.formulas.specs.declared.formula.Formula.{Formula}
use Rattle.keeping.specs.declared.moment.Moment.TheVariants.{Step}
use Rattle.strengthen.specs.Follow.{Follows}
use Rattle.strengthen.specs.declared.follow.Followed.{Followed}
use Rattle.strengthen.specs.declared.follow.Followed.TheVariants as followed
use Rattle.strengthen.proofs.KnownLaws.{kept_by_steps}
use Rattle.strengthen.proofs.judge.by_steps.Goals as goal

pub returns-in-Always-clause-judged : goal.returns-in-Always-clause-judged
returns-in-Always-clause-judged g c =
    let k = c.args.keeping.now in
    let all = c.if-not-all_begin.false in
    let n : Follows k k.claim.value Step followed.Always = subst (λ (d : Formula). Follows k d Step followed.Always) c.deref.ensures (subst (λ (f : Followed). Follows k c.deref.result.now Step f) c.in-Always.is c.in_ok-follows.ensures) in
    kept_by_steps c.args.problem.given c.args.choice.now k c.requires.with (c.all_begin.ensures all) n
