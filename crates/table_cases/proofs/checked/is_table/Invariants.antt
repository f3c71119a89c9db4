use Rattle.std.proofs.Common.{ℕ, ◌<◌}
use Rattle.tables.specs.Cells.{entry}
use Rattle.table_cases.proofs.checked.is_table.Given as goal

-- the entries of the rows before q are numbers of classes
abbrev pub invariant-loop-q : goal.invariant-loop-q
invariant-loop-q l = (p : ℕ) → p < l.q → (a : ℕ) → a < l.width → entry l.rows l.width p a < l.classes
