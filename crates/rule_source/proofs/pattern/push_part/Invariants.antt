use Rattle.std.proofs.Common.{◌≡◌, ◌++◌, All, take}
use Rattle.rule_source.specs.Clash.{CanAsk}
use Rattle.rule_source.specs.Patterns.{part_literals}
use Rattle.rule_source.proofs.pattern.push_part.Given as goal

-- what the first words ask
abbrev pub invariant-loop-term : goal.invariant-loop-term
invariant-loop-term l = record {
  words : l.literals.items ≡ l.initial.literals.items ++ part_literals l.bits l.side (take l.term-index l.part);
  can : All (CanAsk l.bits.layout) l.initial.literals.items → All (CanAsk l.bits.layout) l.literals.items;
}
