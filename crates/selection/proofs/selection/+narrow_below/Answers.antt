use Rattle.std.proofs.Common.{◌%◌, arith}
use Rattle.selection.proofs.SelectionLaws.{doubled}
use Rattle.selection.proofs.selection.+narrow_below.Goals as goal

pub returns-then-mask-eq1-clause-below : goal.returns-then-mask-eq1-clause-below
returns-then-mask-eq1-clause-below t c = doubled c.args.of c.narrow_below-behind.result (c.args.column % 2) (omega arith) c.narrow_below-behind.ensures.below (omega arith)

pub returns-else-mask-eq1-clause-below : goal.returns-else-mask-eq1-clause-below
returns-else-mask-eq1-clause-below t c = omega (arith, doubled c.args.of c.narrow_below-behind.result 0 (omega arith) c.narrow_below-behind.ensures.below (omega arith))
