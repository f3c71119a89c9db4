use Rattle.std.proofs.Common.{arith}
use Rattle.rule_source.specs.Given.{IsModule}
use Rattle.rule_source.proofs.NamesLaws.{zip_item}
use Rattle.rule_source.proofs.given.columns_of.Goals as goal

pub loop-names-preserved : goal.loop-names-preserved
loop-names-preserved c = zip_item (IsModule c.args.bits.now) c.args.modules.now c.loop-names.names-index c.names-item.result c.loop-names.columns.items c.push.new.self.items c.in_ok-column_of.field-0 (omega arith) c.names-item.is c.loop-names.invariant c.in_ok-push.ensures.items c.in_ok-column_of.ensures
