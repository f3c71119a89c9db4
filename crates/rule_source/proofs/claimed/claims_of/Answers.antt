use Rattle.std.proofs.Common.{map, arith}
use Rattle.rule_file.specs.declared.tree.Line.{Line}
use Rattle.rule_source.specs.declared.claimed.Claim.{Claim}
use Rattle.rule_source.specs.Claimed.{claiming}
use Rattle.rule_source.proofs.NamesLaws.{filtered_item}
use Rattle.rule_source.proofs.claimed.claims_of.Goals as goal

pub loop-line-preserved : goal.loop-line-preserved
loop-line-preserved c = record {
  all = filtered_item (λ (l : Line). claiming l.statement) c.args.source.now.file.lines.items c.loop-line.line-index c.line-item.result (map (λ (x : Claim). x.statement.now) c.loop-line.claims.items) (map (λ (x : Claim). x.statement.now) c.push_claim.new.claims.items) (omega arith) (cc) c.loop-line.invariant.all c.in_ok-push_claim.ensures.all;
  each = c.in_ok-push_claim.ensures.each c.loop-line.invariant.each;
}
