use Rattle.std.proofs.Common.{rules}
use Rattle.table_cases.proofs.AtomCaseLaws.{exact_below, exact_connected, exact_collapsed}
use Rattle.table_cases.proofs.atom_case.atom_case.Goals as goal

pub table-requires-clause-below : goal.table-requires-clause-below
table-requires-clause-below c = exact_below c.in-Some.ensures (search rules)

pub dead-dead-requires-clause-connected : goal.dead-dead-requires-clause-connected
dead-dead-requires-clause-connected c = exact_connected c.in-Some.ensures (search rules) c.table.result c.table.ensures

pub dead-dead-requires-clause-collapsed : goal.dead-dead-requires-clause-collapsed
dead-dead-requires-clause-collapsed c = exact_collapsed c.in-Some.ensures (search rules) c.table.result c.table.ensures
