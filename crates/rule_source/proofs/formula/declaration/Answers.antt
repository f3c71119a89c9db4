use Rattle.std.proofs.Common.{List, ℕ, ◌++◌, codes, string_bytes, ap, ◌∙◌}
use Rattle.std.proofs.lemmas.Result.{IfOk-weaker}
use Rattle.rule_source.proofs.FormulasLaws.{join_by-map}
use Rattle.rule_source.proofs.formula.declaration.Goals as goal

pub returns : goal.returns
returns c = IfOk-weaker c.format.result _ _ (λ s e. e ∙ ap (λ (t : List ℕ). codes "var2 " ++ (t ++ codes ";\n")) (c.in_ok-names.ensures.ok ∙ join_by-map (λ n. string_bytes n) (codes ", ") c.args.names.now)) c.format.ensures.ok
