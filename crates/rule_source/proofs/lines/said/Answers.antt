use Rattle.std.proofs.Common.{◌≡◌, ◌++◌, Option, take, ◌+◌, sym, subst, ◌∙◌, ap, arith, rules}
use Rattle.std.specs.Option.{option_to_list}
use Rattle.rows.specs.declared.rule.NewBit.{NewBit}
use Rattle.rule_source.specs.Effects.{said}
use Rattle.rule_source.specs.Patterns.{number}
use Rattle.rule_source.proofs.EffectsLaws.{says_first, says_no_more}
use Rattle.rule_source.proofs.lines.said.Goals.{then-branch-j+else-is_some+in_ok-value, else-branch-j}
use Rattle.rule_source.proofs.lines.said.Goals as goal

pub loop-change-preserved : goal.loop-change-preserved
loop-change-preserved c =
    let b = c.args.bits.now in
    elim c.if-branch-j.branch [
      | then-branch-j+else-is_some+in_ok-value w ↦
          subst (λ (o : Option NewBit). option_to_list o ≡ option_to_list c.args.before ++ said b c.args.j (take (c.loop-change.change-index + 1) c.args.changes.now)) (sym w.said-is)
          (says_first b c.args.j c.args.changes.now c.loop-change.change-index _ (option_to_list c.args.before) c.loop-change.said c.in_ok-number.field-0 w.in_ok-value.field-0 (omega arith) c.loop-change.invariant
          (search rules) (c.in_ok-number.ensures.number ∙ ap (λ t. number b t) c.changed-name.ensures) (omega arith) (w.in_ok-value.ensures))
      | else-branch-j w ↦
          subst (λ (o : Option NewBit). option_to_list o ≡ option_to_list c.args.before ++ said b c.args.j (take (c.loop-change.change-index + 1) c.args.changes.now)) (sym w.said-is)
          (says_no_more b c.args.j c.args.changes.now c.loop-change.change-index _ (option_to_list c.args.before) c.loop-change.said c.in_ok-number.field-0 (omega arith) c.loop-change.invariant
          (c.in_ok-number.ensures.number ∙ ap (λ t. number b t) c.changed-name.ensures) (λ e. omega arith))
    ]
