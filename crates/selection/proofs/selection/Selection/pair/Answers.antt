use Rattle.selection.proofs.SelectionLaws.{bits_two}
use Rattle.selection.proofs.selection.Selection.pair.Goals as goal

pub returns-clause-chosen : goal.returns-clause-chosen
returns-clause-chosen c = bits_two c.args.x.0 c.args.y.0 _ _ c.with_bit.ensures.here c.with_bit.ensures.others c.with_bit-2.ensures.here c.with_bit-2.ensures.others
