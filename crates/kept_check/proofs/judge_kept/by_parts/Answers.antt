use Rattle.std.proofs.Common.{◌≡◌, List, map, sym, subst}
use Rattle.std.proofs.Common.{arith}
use Rattle.std.proofs.lemmas.Grind.{common_steps}
use Rattle.formulas.specs.declared.formula.Formula.{Formula}
use Rattle.rules.proofs.ChangedLaws.{is_true}
use Rattle.kept_check.specs.Parts.{NamesOk, parts}
use Rattle.kept_check.proofs.PartsLaws.{parts_named}
use Rattle.kept_check.proofs.judge_kept.by_parts.Goals as goal

pub judge_parts-requires-clause-names : goal.judge_parts-requires-clause-names
judge_parts-requires-clause-names c =
    let k = c.args.asked.keeping.now in
    let items : map (λ d. d.now) c.deref-2.result.now ≡ parts k.claim.value = grind (arith, common_steps, c.deref-2.ensures.value, c.in_ok-put_parts.ensures, c.new-parts.ensures.items) in
    subst (λ (l : List Formula). NamesOk k.rule.now.bits l) (sym items) (parts_named k.rule.now.bits k.claim.value (is_true _ k.names))
