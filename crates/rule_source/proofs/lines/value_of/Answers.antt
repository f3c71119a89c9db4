use Rattle.std.proofs.Common.{◌++◌, ap, ◌∙◌}
use Rattle.std.specs.Option.{option_to_list}
use Rattle.rule_source.specs.Effects.{said}
use Rattle.rule_source.proofs.EffectsLaws.{all_said, said_first, said_once}
use Rattle.rule_source.proofs.lines.value_of.Goals as goal

pub returns-clause-value : goal.returns-clause-value
returns-clause-value c =
    said_first c.in_ok-new.new _ c.unwrap_or.result _
    (all_said c.args.bits.now c.args.j c.args.effects.now c.in_ok-before.before c.in_ok-new.new (c.in_ok-before.ensures ∙ ap (λ l. said c.args.bits.now c.args.j l) c.deref.ensures.value) (c.in_ok-new.ensures ∙ ap (λ l. option_to_list c.in_ok-before.before ++ said c.args.bits.now c.args.j l) c.deref-2.ensures.value))
    c.unwrap_or.ensures

pub returns-clause-once : goal.returns-clause-once
returns-clause-once c =
    said_once c.in_ok-new.new _
    (all_said c.args.bits.now c.args.j c.args.effects.now c.in_ok-before.before c.in_ok-new.new (c.in_ok-before.ensures ∙ ap (λ l. said c.args.bits.now c.args.j l) c.deref.ensures.value) (c.in_ok-new.ensures ∙ ap (λ l. option_to_list c.in_ok-before.before ++ said c.args.bits.now c.args.j l) c.deref-2.ensures.value))
