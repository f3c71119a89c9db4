use Rattle.std.proofs.Common.{arith}
use Rattle.rule_source.specs.Patterns.{literal_of}
use Rattle.rule_source.proofs.NamesLaws.{filtered_more}
use Rattle.rule_source.proofs.pattern.push_part.Goals as goal

pub loop-term-preserved : goal.loop-term-preserved
loop-term-preserved c = record {
  words = filtered_more (literal_of c.args.bits.now c.args.side) c.args.part.now c.loop-term.term-index _ c.args.literals.now.items c.loop-term.literals.items c.push_term.new.literals.items (omega arith) c.loop-term.invariant.words c.in_ok-push_term.ensures.words;
  can = λ h. c.in_ok-push_term.ensures.can (c.loop-term.invariant.can h);
}
