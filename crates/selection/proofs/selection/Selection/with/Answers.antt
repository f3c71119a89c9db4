use Rattle.selection.proofs.SelectionLaws.{bit_either}
use Rattle.selection.proofs.selection.Selection.with.Goals as goal

pub returns-clause-chosen : goal.returns-clause-chosen
returns-clause-chosen c z = bit_either z c.args.self.mask c.args.other.mask
