use Rattle.rule_source.specs.Clash.{CanAsk}
use Rattle.rule_source.proofs.NamesLaws.{all_none}
use Rattle.rule_source.proofs.pattern.literals_of.Goals as goal

pub returns-clause-can : goal.returns-clause-can
returns-clause-can c =
    c.in_ok-push_part-3.ensures.can (c.in_ok-push_part-2.ensures.can (c.in_ok-push_part.ensures.can
    (all_none (CanAsk c.args.bits.now.layout) c.new-literals.result.items c.new-literals.ensures.items)))
