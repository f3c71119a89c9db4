use Rattle.std.proofs.Common.{ℕ, List, ◌++◌, codes, ap, ◌∙◌}
use Rattle.rule_report.proofs.kept.told_breach.Goals as goal

pub returns-clause-text : goal.returns-clause-text
returns-clause-text c =
    let told : List ℕ → List ℕ = λ words. codes "  " ++ (c.args.keep.now.name.now ++ (codes ": " ++ words)) in
    c.in_ok-format.ensures.ok ∙ ap told c.in_ok-words.ensures
