use Rattle.std.proofs.Common.{◌≡◌, ◌-◌, ◌<◌, ◌≤◌, length}
use Rattle.tables.specs.Cells.{entry}
use Rattle.shortest.proofs.StepsLaws.{Noting}
use Rattle.shortest.proofs.steps.steps.Given as goal

-- the rows before i are done
abbrev pub invariant-loop-i : goal.invariant-loop-i
invariant-loop-i l = (l.i ≤ l.count) × (length l.prev ≡ length l.fn.prev) × (length l.via ≡ length l.fn.via) × Noting l.t.sets l.t.table.classes (entry l.t.table.rows.now l.t.table.width) l.count l.prev l.via l.i 0

-- the columns before a are done
abbrev pub invariant-loop-a : goal.invariant-loop-a
invariant-loop-a l = (l.i < l.count) × (length l.prev ≡ length l.fn.prev) × (length l.via ≡ length l.fn.via) × Noting l.t.sets l.t.table.classes (entry l.t.table.rows.now l.t.table.width) l.count l.prev l.via l.i l.a

abbrev pub decreases-loop-i : goal.decreases-loop-i
decreases-loop-i l = l.t.table.classes - l.i
