use Rattle.construct.proofs.WidenLaws.{widened_read, widened_same, written_below}
use Rattle.construct.proofs.widen.widen.Goals as goal

pub table-requires-clause-below : goal.table-requires-clause-below
table-requires-clause-below c = written_below c.args.t c.args.from c.args.to c.args.sheet.now c.recolumn.new.sheet c.requires.from c.recolumn.ensures

pub returns-then-from-to : goal.returns-then-from-to
returns-then-from-to c = widened_same c.args.t c.args.from c.args.to c.requires.same c.requires.from c.if-from-to.true

pub returns : goal.returns
returns c = widened_read c.args.t c.args.from c.args.to c.args.sheet.now c.recolumn.new.sheet c.requires.same c.requires.among c.requires.to c.recolumn.ensures c.table.result c.table.ensures
