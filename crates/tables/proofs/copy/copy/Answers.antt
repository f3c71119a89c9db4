use Rattle.tables.proofs.CellsLaws.{copied_entry}
use Rattle.tables.proofs.copy.copy.Goals as goal

pub returns-clause-leads : goal.returns-clause-leads
returns-clause-leads c q a h g = let t = c.args.t in copied_entry t.rows.now c.copy_from_slice.new.self _ t.classes t.width q a c.copy_from_slice.ensures.after t.rows_fit h g
