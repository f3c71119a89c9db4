use Rattle.std.proofs.Common.{ℕ, ◌<◌}
use Rattle.tables.specs.Cells.{entry}
use Rattle.table_cases.proofs.checked.row_below.Given as goal

-- the entries before column a are numbers of classes
abbrev pub invariant-loop-a : goal.invariant-loop-a
invariant-loop-a l = (b : ℕ) → b < l.a → entry l.rows l.width l.q b < l.classes
