use Rattle.std.proofs.Common.{arith}
use Rattle.rule_file.proofs.NamesLaws.{names_more}
use Rattle.rule_file.proofs.names.names_of.Goals as goal

pub loop-line-preserved : goal.loop-line-preserved
loop-line-preserved c =
    names_more c.args.lines.now c.loop-line.line-index c.line-item.result c.loop-line.names.items _ c.claim_name.result (omega arith) c.line-item.is c.loop-line.invariant c.claim_name.ensures c.in_ok-push_some.ensures
