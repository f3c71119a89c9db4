use Rattle.std.proofs.Common.{sym, subst}
use Rattle.strengthen.specs.Known.{IsJudged}
use Rattle.strengthen.specs.declared.judge.Judged.{Judged}
use Rattle.strengthen.proofs.KnownLaws.{told_judged}
use Rattle.strengthen.proofs.judge.as_claim.Goals as goal

pub returns : goal.returns
returns g c =
    let x = c.args.problem.given in
    let y = c.args.problem.memory in
    let is = c.args.choice.now in
    subst (λ (j : Judged). IsJudged x y is j) (sym c.judged_of.ensures) (told_judged x is c.args.keeping.now c.requires.with y c.in_ok-answer.answer c.in_ok-answer.ensures)
