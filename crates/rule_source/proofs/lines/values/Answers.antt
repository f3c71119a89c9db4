use Rattle.std.proofs.Common.{◌≤◌, length, arith}
use borrow.Author.Count.{below_more}
use Rattle.std.proofs.lemmas.List.FromFn.{map-range_with_len_more}
use Rattle.rule_source.specs.Effects.{bit_after, changes, said}
use Rattle.rule_source.proofs.lines.values.Goals as goal

pub loop-j-preserved : goal.loop-j-preserved
loop-j-preserved c = record {
  each = let e = map-range_with_len_more (bit_after c.args.bits.now c.args.effects.now) 0 c.loop-j.j c.loop-j.j (omega arith) in cc (c.in_ok-push.ensures.items, c.in_ok-value_of.ensures.value);
  apart = below_more (λ i. length (said c.args.bits.now i (changes c.args.effects.now)) ≤ 1) c.loop-j.j c.loop-j.invariant.apart c.in_ok-value_of.ensures.once;
}
