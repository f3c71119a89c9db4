use Rattle.std.proofs.Common.{◌≡◌}
use Rattle.keeping.specs.declared.moment.Moment.TheVariants.{Start, Step}
use Rattle.kept_claims.specs.Breach.{Breaks, Broken}
use Rattle.kept_check.specs.Found.{IsLarge}
use Rattle.kept_check.proofs.FoundLaws.{together}
use Rattle.kept_check.proofs.part.judge_part.Goals as goal

pub returns : goal.returns
returns c =
    let a = c.args.asked in
    let k = a.keeping.now in
    let d = c.args.part.now in
    together k.rule.now.bits (Breaks k d Start) (Breaks k d Step) (Broken k d) (λ w h. (λ p. p, λ p. p)) (Breaks k d) (Breaks k d) (Breaks k d) (λ m w p. p) (λ m w p. p) (λ t. (t.part ≡ c.args.number) × IsLarge a.keeping.now a.memory d t.moment t.why) (λ t. (t.part ≡ c.args.number) × IsLarge a.keeping.now a.memory d t.moment t.why) (λ t. (t.part ≡ c.args.number) × IsLarge a.keeping.now a.memory d t.moment t.why) (λ t p. p) (λ t p. p)
    c.in_ok-start.start c.in_ok-step.step c.earlier.result c.in_ok-start.ensures c.in_ok-step.ensures c.earlier.ensures
