use Rattle.atoms.proofs.atom_table.atom_table.Goals as goal

pub returns-in-Related : goal.returns-in-Related
returns-in-Related c = rw c.in-Related.is c.table.ensures

pub returns-in-Counted : goal.returns-in-Counted
returns-in-Counted c = rw c.in-Counted.is c.table-in-Counted.ensures
