use Rattle.std.proofs.Common.{map, arith}
use Rattle.rule_file.specs.declared.tree.Line.{Line}
use Rattle.rule_source.specs.declared.kept.Keep.{Keep}
use Rattle.rule_source.specs.Kept.{keeping}
use Rattle.rule_source.proofs.NamesLaws.{filtered_item}
use Rattle.rule_source.proofs.kept.keeps_of.Goals as goal

pub loop-line-preserved : goal.loop-line-preserved
loop-line-preserved c = record {
  all = filtered_item (λ (l : Line). keeping l.statement) c.args.source.now.file.lines.items c.loop-line.line-index c.line-item.result (map (λ (x : Keep). x.statement.now) c.loop-line.keeps.items) (map (λ (x : Keep). x.statement.now) c.push_keep.new.keeps.items) (omega arith) (cc) c.loop-line.invariant.all c.in_ok-push_keep.ensures.all;
  each = c.in_ok-push_keep.ensures.each c.loop-line.invariant.each;
}
