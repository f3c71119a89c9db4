use Rattle.std.proofs.Common.{ℕ, ◌<◌}
use Rattle.automata.specs.Subsets.{Live}
use Rattle.tables.specs.Cells.{entry, accepts}
use Rattle.live.proofs.dead.dead.Given as goal

-- the classes before q are live
abbrev pub invariant-loop-q : goal.invariant-loop-q
invariant-loop-q l = (p : ℕ) → p < l.q → Live l.t.sets (entry l.t.table.rows.now l.t.table.width) (accepts l.t.table.accept.now) p
